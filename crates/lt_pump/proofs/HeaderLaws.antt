-- The header that a stream begins with: only one can, and what is found at the front decides it.
use Rattle.std.proofs.Common.{◌≡◌, ℕ, ◌+◌, ◌^◌, ◌<◌, ◌≤◌, true, false, List, [], ◌∷◌, ◌++◌, length, take, drop, refl, sym, ap, subst, ◌∙◌, arith, inl, inr, append_assoc, append-nil}
use Rattle.std.specs.Prelude.{IfSome, IsTrue, None, Option, Some, unwrap_or}
use Rattle.std.proofs.lemmas.Bool.{and_parts, leb-true}
use Rattle.std.proofs.lemmas.List.{length-append, take_at}
use Rattle.lt_terms.specs.declared.BadFrame.TheVariants as bad
use Rattle.lt_terms.specs.declared.Format.{Format}
use Rattle.lt_terms.specs.declared.Format.TheVariants as format
use Rattle.lt_terms.specs.Log as log
use Rattle.lt_terms.specs.Log.{Found, Header, IsFound, IsFrame, Item, body, change_item, checkpoint_item, header_item, is_content, is_item, is_kind, is_read, kind_byte, malformed, max_body, partial, spelled, whole}
use Rattle.lt_world.specs.Feed.{Feed, stream_bytes}
use Rattle.lt_tables.specs.Pump.{StreamOpens}
use Rattle.lt_codecs.specs.Codec as codec
use Rattle.lt_codecs.proofs.Codecs.{u32_is}
use Rattle.lt_codecs.proofs.FoundLaws.{kind_is, whole_splits}
use Rattle.lt_codecs.proofs.ListFacts.{heads, tails}
use Rattle.lt_codecs.proofs.LogLaws.{frames_prefix_free}
use Rattle.lt_records.specs.View.{view_found, view_header, view_item}
use Rattle.lt_records.specs.declared.record.Found as records
use Rattle.lt_records.specs.declared.record.Found.TheVariants as found
use Rattle.lt_records.specs.declared.record.LogRecord.{LogRecord}
use Rattle.lt_records.specs.declared.record.LogRecord.TheVariants as record_of
use Rattle.lt_records.specs.declared.record.StreamHeader.{StreamHeader}
use Rattle.lt_pump.specs.Headers.{Begins}
use Rattle.lt_pump.specs.Reads.{FoundAhead}
use Rattle.lt_pump.proofs.FeedLaws.{told_map}

-- ---- what stands where a frame stands

read_u32 : (n : ℕ) (rest : List ℕ) → n < 2 ^ 32 → codec.u32.read (log.u32 n ++ rest) ≡ Some (n, rest)
unfolding codec.u32
read_u32 n rest h = u32_is.again n rest h

parts : (i : Item) (rest : List ℕ) → spelled i ++ rest ≡ kind_byte i ∷ (log.u32 (length (body i)) ++ (body i ++ rest))
unfolding spelled
parts i rest = ap (λ (y : List ℕ). kind_byte i ∷ y) (append_assoc (log.u32 (length (body i))) (body i) rest)

small : (i : Item) → IsTrue (is_item format.One i) → length (body i) ≤ 1048576
small i l = leb-true (length (body i)) 1048576 (and_parts (is_content format.One i) _ l).1

same_parts : (k l m n : ℕ) (x y : List ℕ) → k ∷ (log.u32 l ++ x) ≡ m ∷ (log.u32 n ++ y) → l < 2 ^ 32 → n < 2 ^ 32 → (k ≡ m) × (l ≡ n) × (x ≡ y)
same_parts k l m n x y e p q =
    let r = tails k m (log.u32 l ++ x) (log.u32 n ++ y) e in
    let s : Some (l, x) ≡ Some (n, y) = sym (read_u32 l x p) ∙ ap codec.u32.read r ∙ read_u32 n y q in
    let t : (l, x) ≡ (n, y) = ap (λ (o : Option (ℕ × List ℕ)). unwrap_or o (0, [])) s in
    (heads k m (log.u32 l ++ x) (log.u32 n ++ y) e, ap (λ (z : ℕ × List ℕ). z.0) t, ap (λ (z : ℕ × List ℕ). z.1) t)

four : (n : ℕ) (rest : List ℕ) → length (log.u32 n ++ rest) ≡ 4 + length rest
four n rest = omega arith

-- where a lawful frame stands at the front, it is what is found
front_is : (bytes : List ℕ) (x : Found) (i : Item) (rest : List ℕ) → IsFound format.One bytes x → IsTrue (is_item format.One i) → bytes ≡ spelled i ++ rest → (n : ℕ) × (x ≡ whole i n)
front_is bytes (whole j n) i rest h l e =
    let w = whole_splits format.One bytes j n h in
    let same = (frames_prefix_free format.One j i (drop n bytes) rest h.1.lawful l (sym w.0 ∙ e)).0 in
    (n, ap (λ (y : Item). whole y n) same)
front_is bytes partial i rest (inl none) l e = absurd (let d = sym none ∙ e ∙ parts i rest in cc)
front_is bytes partial i rest (inr (inl h)) l e =
    let k = h.0 in
    let more = h.1 in
    let d : k ∷ more ≡ kind_byte i ∷ (log.u32 (length (body i)) ++ (body i ++ rest)) = sym h.3 ∙ e ∙ parts i rest in
    let size : length more ≡ 4 + length (body i ++ rest) = ap length (tails k (kind_byte i) more _ d) ∙ four (length (body i)) (body i ++ rest) in
    absurd (omega (arith, h.4, size))
front_is bytes partial i rest (inr (inr h)) l e =
    let o = h.3 in
    let b = small i l in
    let p = same_parts h.0 h.1 (kind_byte i) (length (body i)) h.2 (body i ++ rest) (sym o.spells ∙ e ∙ parts i rest) (omega (arith, o.small)) (omega (arith, b)) in
    let size : length h.2 ≡ length (body i) + length rest = ap length p.2 ∙ length-append (body i) rest in
    absurd (omega (arith, h.4, size, p.1))
front_is bytes (malformed (bad.Kind k)) i rest h l e =
    let d : k ∷ h.0 ≡ kind_byte i ∷ (log.u32 (length (body i)) ++ (body i ++ rest)) = sym h.1 ∙ e ∙ parts i rest in
    let same : k ≡ kind_byte i = heads k (kind_byte i) h.0 _ d in
    let lawful : is_kind format.One k ≡ true = ap (is_kind format.One) same ∙ kind_is format.One i (and_parts (is_content format.One i) _ l).0 in
    absurd (let f = sym h.2 ∙ lawful in cc)
front_is bytes (malformed (bad.Length n)) i rest h l e =
    let b = small i l in
    let p = same_parts h.0 n (kind_byte i) (length (body i)) h.1 (body i ++ rest) (sym h.5 ∙ e ∙ parts i rest) h.4 (omega (arith, b)) in
    absurd (omega (arith, h.3, b, p.1))
front_is bytes (malformed bad.Body) i rest h l e =
    let o = h.3 in
    let b = small i l in
    let k = h.0 in
    let p = same_parts k h.1 (kind_byte i) (length (body i)) h.2 (body i ++ rest) (sym o.spells ∙ e ∙ parts i rest) (omega (arith, o.small)) (omega (arith, b)) in
    let cut : take h.1 h.2 ≡ body i = ap (take h.1) p.2 ∙ take_at (body i) rest h.1 (sym p.1) in
    let first : k ∷ (log.u32 h.1 ++ take h.1 h.2) ≡ spelled i =
    ap (λ (x : ℕ). x ∷ (log.u32 h.1 ++ take h.1 h.2)) p.0 ∙ ap (λ (x : ℕ). kind_byte i ∷ (log.u32 x ++ take h.1 h.2)) p.1 ∙ ap (λ (x : List ℕ). kind_byte i ∷ (log.u32 (length (body i)) ++ x)) cut
    ∙ ap (λ (x : List ℕ). kind_byte i ∷ (log.u32 (length (body i)) ++ x)) (sym (append-nil (body i))) ∙ sym (parts i []) ∙ append-nil (spelled i) in
    absurd (h.5 i (record { lawful = l; spells = first }))

-- ---- the header of a stream

read_one : (f : Format) → IsTrue (is_read f) → f ≡ format.One
read_one format.One l = refl
read_one format.Two l = absurd (let e : false ≡ true = l in cc)

opens_front : (f : Feed) (s : ℕ) (h : Header) (x : Found) → IsFound format.One (stream_bytes f s) x → StreamOpens f s h → (n : ℕ) × (x ≡ whole (header_item h) n)
opens_front f s h x found opens =
    let has = opens.0 in
    front_is (stream_bytes f s) x (header_item h) has.rest found (subst (λ (y : Format). IsTrue (is_item y (header_item h))) (read_one h.format opens.1) has.lawful) has.spells

-- no header where something else is found
no_header : (f : Feed) (s : ℕ) (x : Found) → ((h : Header) (n : ℕ) → x ≡ whole (header_item h) n → ⊥) → IsFound format.One (stream_bytes f s) x → Begins f s None
no_header f s x other found h opens = let w = opens_front f s h x found opens in other h w.0 w.1

same_item : (i j : Item) (n m : ℕ) → whole i n ≡ whole j m → i ≡ j
same_item i j n m e = cc

same_header : (g h : Header) → header_item g ≡ header_item h → g ≡ h
same_header g h e = cc

one_header : (f : Feed) (s n : ℕ) (r : StreamHeader) → IsFound format.One (stream_bytes f s) (whole (header_item (view_header r)) n) → Begins f s (Some (r, n))
one_header f s n r found = (
  (drop n (stream_bytes f s), (whole_splits format.One (stream_bytes f s) (header_item (view_header r)) n found).0),
  λ h opens. let w = opens_front f s h (whole (header_item (view_header r)) n) found opens in
      sym (same_header (view_header r) h (same_item (header_item (view_header r)) (header_item h) n w.0 w.1)),
)

not_header : (r : LogRecord) (size : ℕ) → ((k : StreamHeader) → r ≡ record_of.Header k → ⊥) → (h : Header) (n : ℕ) → whole (view_item r) size ≡ whole (header_item h) n → ⊥
not_header (record_of.Header k) size other h n e = other k refl
not_header (record_of.Change c) size other h n e = let d = same_item _ (header_item h) size n e in absurd cc
not_header (record_of.Checkpoint t) size other h n e = let d = same_item _ (header_item h) size n e in absurd cc

not_whole : (x : records.Found) → ((r : LogRecord) (size : ℕ) → x ≡ found.Whole r size → ⊥) → (h : Header) (n : ℕ) → view_found x ≡ whole (header_item h) n → ⊥
not_whole (found.Whole r size) other h n e = other r size refl
not_whole found.Partial other h n e = absurd cc
not_whole (found.Malformed b) other h n e = absurd cc

pub begins_other : (told : Option Feed) (s size : ℕ) (left : List ℕ) (x : records.Found) (r : LogRecord) → x ≡ found.Whole r size → ((k : StreamHeader) → r ≡ record_of.Header k → ⊥) → IfSome told (λ f. FoundAhead f s 0 left (view_found x)) → IfSome told (λ f. Begins f s None)
begins_other told s size left x r e other h = told_map (λ f. FoundAhead f s 0 left (view_found x)) (λ f. Begins f s None) told h
    (λ f a. no_header f s (view_found x) (λ k n d. not_header r size other k n (ap view_found (sym e) ∙ d)) a.found)

pub begins_no_frame : (told : Option Feed) (s : ℕ) (left : List ℕ) (x : records.Found) → ((r : LogRecord) (size : ℕ) → x ≡ found.Whole r size → ⊥) → IfSome told (λ f. FoundAhead f s 0 left (view_found x)) → IfSome told (λ f. Begins f s None)
begins_no_frame told s left x other h = told_map (λ f. FoundAhead f s 0 left (view_found x)) (λ f. Begins f s None) told h (λ f a. no_header f s (view_found x) (not_whole x other) a.found)

pub begins_header : (told : Option Feed) (s size : ℕ) (left : List ℕ) (x : records.Found) (i : LogRecord) (r : StreamHeader) → x ≡ found.Whole i size → i ≡ record_of.Header r → IfSome told (λ f. FoundAhead f s 0 left (view_found x)) → IfSome told (λ f. Begins f s (Some (r, size)))
begins_header told s size left x i r e d h = told_map (λ f. FoundAhead f s 0 left (view_found x)) (λ f. Begins f s (Some (r, size))) told h
    (λ f a. one_header f s size r (subst (λ (y : LogRecord). IsFound format.One (stream_bytes f s) (whole (view_item y) size)) d (subst (λ (y : records.Found). IsFound format.One (stream_bytes f s) (view_found y)) e a.found)))
