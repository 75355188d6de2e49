-- The text of JSON data is UTF-8 and reads back as the data: where its numbers are whole and within 64 bits, its texts are UTF-8 and
-- the names of each object rise.
use Rattle.std.proofs.Common.{Bool, IsUtf8, List, [], ap, append-nil, ap₂, arith, false, lt-ltb, negsuc, pos, refl, suc, sym, true, ℕ, ℤ, ◌<◌, ◌^◌, ◌∙◌, ◌∷◌, ◌≡◌, ◌≤◌}
use Rattle.std.specs.Prelude.{IsTrue, Option, Some, max, option_and_then, option_map, ⊤, ◌&&◌}
use Rattle.json.specs.Print.{IsNumber}
use Rattle.serde_json.specs.Data.{Data, Items, Members, Num, array, boolean, depth, item, items_depth, member, members_depth, no_items, no_members, null, number, object, put, string}
use Rattle.serde_json.specs.Read.{max_depth, number_of, of_items, of_json, of_members, read}
use Rattle.serde_json.specs.Written.{comma_if, compact_text, items_outline, items_text, members_outline, members_text, number_text, outline}
use Rattle.std.specs.Cmp.Lexicographic.{slice_cmp}
use Rattle.std.specs.Ordering.{is_gt, match_ordering, nat_cmp}
use Rattle.std.proofs.lemmas.Fmt.{IsAscii-decimal, IsAscii-signed}
use Rattle.std.proofs.lemmas.Str.{IsUtf8-append, IsUtf8-from_ascii, IsUtf8-nil}
use Rattle.json.proofs.Printed.Decimals.{IsNumber-decimal, IsNumber-signed_decimal}
use Rattle.serde_json.specs.Find.{of_integer}
use Rattle.serde_json.proofs.Numbers.{number_of-decimal, number_of-negative}
use Rattle.json.specs.Tree.{HasNumbers, ItemsHaveNumbers, MembersHaveNumbers, json_tokens}
use Rattle.std.specs.declared.cmp.Ordering.{Ordering}
use Rattle.std.specs.declared.cmp.Ordering.TheVariants.{Equal, Greater, Less}
use Rattle.std.proofs.lemmas.Bool.{and_from, and_parts, false≢true}
use Rattle.json.proofs.Printed.Utf8.{IsUtf8-are_ascii, IsUtf8-boolean, IsUtf8-quoted}
use Rattle.json.specs.Token.{Token}
use Rattle.json.specs.Lex.{tokens}
use Rattle.json.proofs.Printed.Tokens.{tokens-print}
use Rattle.json.proofs.Printed.Trees.{ArePrintable-json_tokens, value-json_tokens}
use Rattle.serde_json.proofs.Texts.{print-outline}
use Rattle.lt_terms.specs.Value.{fits_64}
use Rattle.lt_lemmas.proofs.ConversionLemmas.{mag_fits}
use Rattle.json.specs.Tree as tree
use Rattle.json.specs.Json as json

-- ---- which data

-- the number's text is a whole number's, and reads back
pub record IsWhole (n : Num) : Type 0 where
  pub reads : number_of (number_text n) ≡ Some n
  pub numeral : IsNumber (number_text n)
  pub utf8 : IsUtf8 (number_text n)

-- the name comes after each of these
abbrev pub is_after : List ℕ → Members → Bool
is_after k no_members = true
is_after k (member l d ms) = is_gt (slice_cmp nat_cmp k l) && is_after k ms

-- the members, and then more
abbrev pub joined : Members → Members → Members
joined no_members more = more
joined (member k d ms) more = member k d (joined ms more)

-- the names rise, after the first members
abbrev pub rise_after : Members → Members → Bool
rise_after found no_members = true
rise_after found (member k d ms) = is_after k found && rise_after (joined found (member k d no_members)) ms

-- the text reads back
abbrev mutual
  pub IsPlain : Data → Type 0
  IsPlain null = ⊤
  IsPlain (boolean b) = ⊤
  IsPlain (number n) = IsWhole n
  IsPlain (string s) = IsUtf8 s
  IsPlain (array ds) = ArePlain ds
  IsPlain (object ms) = IsTrue (rise_after no_members ms) × MembersArePlain ms

  pub ArePlain : Items → Type 0
  ArePlain no_items = ⊤
  ArePlain (item d ds) = IsPlain d × ArePlain ds

  pub MembersArePlain : Members → Type 0
  MembersArePlain no_members = ⊤
  MembersArePlain (member k d ms) = IsUtf8 k × IsPlain d × MembersArePlain ms

pub whole_integer : (z : ℤ) → IsTrue (fits_64 z) → IsWhole (of_integer z)
whole_integer (pos n) h = let small : n < 2 ^ 64 = omega (arith, mag_fits (pos n) h) in
    record { reads = number_of-decimal n small; numeral = IsNumber-decimal n small; utf8 = IsUtf8-from_ascii _ (IsAscii-decimal n small) }
whole_integer (negsuc n) h =
    let small : n < 2 ^ 63 = mag_fits (negsuc n) h in
    record { reads = number_of-negative n small; numeral = IsNumber-signed_decimal (negsuc n) small; utf8 = IsUtf8-from_ascii _ (IsAscii-signed (negsuc n) small) }

-- ---- the data as a tree of texts

mutual
  depth_outline : (d : Data) → tree.depth (outline d) ≡ depth d
  depth_outline null = refl
  depth_outline (boolean b) = refl
  depth_outline (number n) = refl
  depth_outline (string s) = refl
  depth_outline (array ds) = ap suc (items_depth_outline ds)
  depth_outline (object ms) = ap suc (members_depth_outline ms)

  items_depth_outline : (ds : Items) → tree.items_depth (items_outline ds) ≡ items_depth ds
  items_depth_outline no_items = refl
  items_depth_outline (item d ds) = ap₂ max (depth_outline d) (items_depth_outline ds)

  members_depth_outline : (ms : Members) → tree.members_depth (members_outline ms) ≡ members_depth ms
  members_depth_outline no_members = refl
  members_depth_outline (member k d ms) = ap₂ max (depth_outline d) (members_depth_outline ms)

mutual
  numerals : (d : Data) → IsPlain d → HasNumbers (outline d)
  numerals null h = tt
  numerals (boolean b) h = tt
  numerals (number n) h = h.numeral
  numerals (string s) h = tt
  numerals (array ds) h = items_numerals ds h
  numerals (object ms) h = members_numerals ms h.1

  items_numerals : (ds : Items) → ArePlain ds → ItemsHaveNumbers (items_outline ds)
  items_numerals no_items h = tt
  items_numerals (item d ds) h = (numerals d h.0, items_numerals ds h.1)

  members_numerals : (ms : Members) → MembersArePlain ms → MembersHaveNumbers (members_outline ms)
  members_numerals no_members h = tt
  members_numerals (member k d ms) h = (numerals d h.1, members_numerals ms h.2)

-- ---- and back: a name that comes after all others is put at the end

abbrev joined_one : Members → List ℕ → Data → Members
joined_one found k d = joined found (member k d no_members)

put_by : (o : Ordering) (k l : List ℕ) (d e : Data) (ms : Members) → is_gt o ≡ true → put k d ms ≡ joined_one ms k d
    → match_ordering o (member k d (member l e ms)) (member l d ms) (member l e (put k d ms)) ≡ member l e (joined_one ms k d)
put_by Less k l d e ms after h = absurd (false≢true after)
put_by Equal k l d e ms after h = absurd (false≢true after)
put_by Greater k l d e ms after h = ap (member l e) h

put_last : (k : List ℕ) (d : Data) (ms : Members) → is_after k ms ≡ true → put k d ms ≡ joined_one ms k d
put_last k d no_members h = refl
put_last k d (member l e ms) h = let p = and_parts _ _ h in put_by (slice_cmp nat_cmp k l) k l d e ms p.0 (put_last k d ms p.1)

joined_joined : (a b c : Members) → joined (joined a b) c ≡ joined a (joined b c)
joined_joined no_members b c = refl
joined_joined (member k d ms) b c = ap (member k d) (joined_joined ms b c)

joined_none : (a : Members) → joined a no_members ≡ a
joined_none no_members = refl
joined_none (member k d ms) = ap (member k d) (joined_none ms)

mutual
  of_outline : (d : Data) → IsPlain d → of_json (outline d) ≡ Some d
  of_outline null h = refl
  of_outline (boolean b) h = refl
  of_outline (number n) h = ap (option_map number) h.reads
  of_outline (string s) h = refl
  of_outline (array ds) h = ap (option_map array) (of_items_outline ds h)
  of_outline (object ms) h = ap (option_map object) (of_members_outline no_members ms h.0 h.1)

  of_items_outline : (ds : Items) → ArePlain ds → of_items (items_outline ds) ≡ Some ds
  of_items_outline no_items h = refl
  of_items_outline (item d ds) h = ap (option_and_then (λ e. option_map (item e) (of_items (items_outline ds)))) (of_outline d h.0) ∙ ap (option_map (item d)) (of_items_outline ds h.1)

  of_members_outline : (found ms : Members) → rise_after found ms ≡ true → MembersArePlain ms → of_members (members_outline ms) found ≡ Some (joined found ms)
  of_members_outline found no_members rise h = ap Some (sym (joined_none found))
  of_members_outline found (member k d ms) rise h =
      let p = and_parts (is_after k found) _ rise in
      ap (option_and_then (λ e. of_members (members_outline ms) (put k e found))) (of_outline d h.1)
      ∙ ap (of_members (members_outline ms)) (put_last k d found p.0)
      ∙ of_members_outline (joined_one found k d) ms p.1 h.2
      ∙ ap Some (joined_joined found (member k d no_members) ms)

-- ---- the text

ascii_byte : (x : ℕ) (s : List ℕ) → x < 128 → IsUtf8 s → IsUtf8 (x ∷ s)
ascii_byte x s small h = IsUtf8-append (x ∷ []) s (IsUtf8-are_ascii (x ∷ []) (and_from _ true (lt-ltb x 128 small) refl)) h

comma_utf8 : (later : Bool) → IsUtf8 (comma_if later)
comma_utf8 true = IsUtf8-are_ascii (44 ∷ []) refl
comma_utf8 false = IsUtf8-nil

mutual
  pub text_utf8 : (d : Data) → IsPlain d → IsUtf8 (compact_text d)
  text_utf8 null h = IsUtf8-are_ascii _ refl
  text_utf8 (boolean b) h = IsUtf8-boolean b
  text_utf8 (number n) h = h.utf8
  text_utf8 (string s) h = IsUtf8-quoted s h
  text_utf8 (array ds) h = ascii_byte 91 _ (omega arith) (items_utf8 false ds h)
  text_utf8 (object ms) h = ascii_byte 123 _ (omega arith) (members_utf8 false ms h.1)

  items_utf8 : (later : Bool) (ds : Items) → ArePlain ds → IsUtf8 (items_text later ds)
  items_utf8 later no_items h = IsUtf8-are_ascii (93 ∷ []) refl
  items_utf8 later (item d ds) h = IsUtf8-append _ _ (comma_utf8 later) (IsUtf8-append _ _ (text_utf8 d h.0) (items_utf8 true ds h.1))

  members_utf8 : (later : Bool) (ms : Members) → MembersArePlain ms → IsUtf8 (members_text later ms)
  members_utf8 later no_members h = IsUtf8-are_ascii (125 ∷ []) refl
  members_utf8 later (member k d ms) h =
      IsUtf8-append _ _ (comma_utf8 later) (IsUtf8-append _ _ (IsUtf8-quoted k h.0) (ascii_byte 58 _ (omega arith) (IsUtf8-append _ _ (text_utf8 d h.1) (members_utf8 true ms h.2))))

-- what follows the grammar in a reading
abbrev whole_text : Option (json.Json × List Token) → Option Data
whole_text o = option_and_then of_json (option_and_then (λ p. json.if_last p.0 p.1) o)

pub text_reads : (d : Data) → IsPlain d → depth d ≤ max_depth → read (compact_text d) ≡ Some d
text_reads d h shallow =
    let j = outline d in
    let lexed : tokens (compact_text d) ≡ json_tokens j = ap tokens (sym (print-outline d)) ∙ tokens-print (json_tokens j) (ArePrintable-json_tokens j (numerals d h)) in
    ap whole_text (ap (json.value max_depth) (lexed ∙ sym (append-nil (json_tokens j))) ∙ value-json_tokens j max_depth [] (omega (arith, shallow, depth_outline d))) ∙ of_outline d h
