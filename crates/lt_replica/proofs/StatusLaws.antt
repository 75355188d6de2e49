-- What a status tells: of each partition and of each stream, one after another.
use Rattle.lt_replica.specs.Numbers.{Numbers}
use Rattle.std.proofs.Common.{Bool, List, [], ap, ap₂, arith, eqb-true, false, get_or, length, refl, subst, suc, sym, take, zero, ℕ, ◌+◌, ◌++◌, ◌<◌, ◌∙◌, ◌∷◌, ◌≡◌, ◌≤◌}
use Rattle.std.specs.Prelude.{IfSome, IsTrue, None, Option, Some, map, slice_get, unwrap_or, zip, ◌&&◌, ◌==◌}
use Rattle.std.specs.Borrow.{Bor}
use Rattle.std.specs.Option.{option_copied}
use Rattle.std.proofs.lemmas.Bool.{and_parts}
use Rattle.std.proofs.lemmas.List.{length-map, map-append, take_all, take_more}
use Rattle.std.proofs.lemmas.Option.{get_or_from_slice_get, slice_get_within}
use Rattle.lt_terms.specs.declared.Format.TheVariants as format
use Rattle.lt_terms.specs.Key.{Range}
use Rattle.lt_terms.specs.Log.{header_item, is_item}
use Rattle.lt_tables.specs.Pump.{StreamAt, numbered_from}
use Rattle.lt_machine.specs.Machine.{checkpoint_at, checkpoints, part_told, parts_told, with_pending}
use Rattle.lt_tables.specs.Pump.{name_of}
use Rattle.lt_machine.specs.Sound.{Memory}
use Rattle.lt_words.specs.Reply as model
use Rattle.lt_tables.specs.Schema.{Catalogue}
use Rattle.lt_tables.specs.Pump.{Part}
use Rattle.lt_storage.specs.Store.{part_ranges}
use Rattle.lt_parts.specs.Parts.{checkpoints_of}
use Rattle.lt_parts.specs.declared.entry.PartEntry.{PartEntry}
use Rattle.lt_pending.specs.Held.{held_in}
use Rattle.lt_pending.specs.declared.changes.Changes.{Changes}
use Rattle.lt_pump.proofs.GivenLaws.{there}
use Rattle.lt_pump.proofs.SubLaws.{mapped_there}
use Rattle.lt_pump.specs.Positions.{are_streams, stream_of}
use Rattle.lt_pump.specs.declared.position.Position.{Position}
use Rattle.lt_reply.specs.View.{view_part, view_stream}
use Rattle.lt_reply.specs.declared.reply.PartLine.{PartLine}
use Rattle.lt_reply.specs.declared.reply.StreamLine.{StreamLine}
use Rattle.lt_replica.specs.State.{AreSettled, part_of_entry, state_with}
use Rattle.lt_replica.proofs.SplitLaws.{ranges_are}

-- ---- lists told one by one

-- one more of a list that is told
pub one_more : {A B : Type 0} (f : A → B) (xs : List A) (x : A) (ys : List B) (n : ℕ) → map f xs ≡ take n ys → slice_get ys n ≡ Some (f x) → map f (xs ++ x ∷ []) ≡ take (n + 1) ys
one_more {A} {B} f xs x ys n e h = map-append f xs (x ∷ []) ∙ ap (λ (zs : List B). zs ++ f x ∷ []) e
    ∙ sym (take_more ys n (f x) (slice_get_within ys n (f x) h) ∙ ap (λ (y : B). take n ys ++ y ∷ []) (get_or_from_slice_get ys n (f x) (f x) h))

-- ---- the partitions

abbrev line : List ℕ → List (List (List ℕ × ℕ)) → ℕ × Part → model.PartLine
line cs pending x = with_pending (length (unwrap_or (slice_get pending x.0) [])) (part_told cs x)

numbered_at : (n i : ℕ) (es : List PartEntry) (e : PartEntry) → slice_get es i ≡ Some e → slice_get (numbered_from n (map part_of_entry es)) i ≡ Some (n + i, part_of_entry e)
numbered_at n i [] e h = absurd cc
numbered_at n zero (x ∷ es) e h = let d : x ≡ e = cc in ap₂ (λ (m : ℕ) (y : PartEntry). Some (m, part_of_entry y)) (omega arith) d
numbered_at n (suc i) (x ∷ es) e h = numbered_at (n + 1) i es e h ∙ ap (λ (m : ℕ). Some (m, part_of_entry e)) (omega arith)

zipped : (f : Part × Range → ℕ) (es : List PartEntry) (rs : List Range) → map f (zip (map part_of_entry es) rs) ≡ map (λ (x : PartEntry × Range). f (part_of_entry x.0, x.1)) (zip es rs)
zipped f [] rs = refl
zipped f (e ∷ es) [] = refl
zipped f (e ∷ es) (r ∷ rs) = ap (λ (ns : List ℕ). f (part_of_entry e, r) ∷ ns) (zipped f es rs)

-- the machine's checkpoints are those that are kept
pub checkpoints_kept : (cat : Catalogue) (n : Numbers) (es : List PartEntry) (ss : List StreamAt) (mem : Memory) → AreSettled es ss → checkpoints (state_with cat n es ss mem) ≡ checkpoints_of es
checkpoints_kept cat n es ss mem h = zipped (λ x. checkpoint_at ss x.0 x.1) es (part_ranges (map part_of_entry es))
    ∙ ap (λ (rs : List Range). map (λ (x : PartEntry × Range). checkpoint_at ss (part_of_entry x.0) x.1) (zip es rs)) (ranges_are es) ∙ sym h

names_at : (cs : List Changes) (i : ℕ) (c : Changes) → i < length cs → c ≡ get_or cs i c → length (unwrap_or (slice_get (map (map name_of) (map held_in cs)) i) []) ≡ length (held_in c)
names_at [] i c l e = absurd (omega (arith, l))
names_at (x ∷ cs) zero c l e = length-map (held_in x) name_of ∙ ap (λ (y : Changes). length (held_in y)) (sym e)
names_at (x ∷ cs) (suc i) c l e = names_at cs i c (omega (arith, l)) e

abbrev pub part_line : List ℕ → PartEntry → ℕ → PartLine
part_line low e pending = record { low = low; resume = e.resume; checkpoint = e.checkpoint; pending = pending; deltas = 0 }

abbrev told_line : PartEntry → List ℕ → ℕ → ℕ → model.PartLine
told_line e low a b = record { low = low; resume = e.resume; checkpoint = a; pending = b; deltas = 0 }

-- a partition's line is the machine's
pub part_line_is : (cat : Catalogue) (n : Numbers) (es : List PartEntry) (ss : List StreamAt) (cs : List Changes) (i : ℕ) (e : PartEntry) (c : Changes) (low : List ℕ) (pending : ℕ) → AreSettled es ss → slice_get es i ≡ Some e → i < length cs → c ≡ get_or cs i c
    → low ≡ e.low → pending ≡ length (held_in c) → slice_get (parts_told (state_with cat n es ss (map held_in cs))) i ≡ Some (view_part (part_line low e pending))
part_line_is cat n es ss cs i e c low pending settled here l is begins held =
    let s = state_with cat n es ss (map held_in cs) in
    let kept : checkpoints s ≡ checkpoints_of es = checkpoints_kept cat n es ss (map held_in cs) settled in
    let i_is : 0 + i ≡ i = omega arith in
    mapped_there (line (checkpoints s) s.pending) (numbered_from 0 s.durable.parts) i (0 + i, part_of_entry e) (numbered_at 0 i es e here)
    ∙ ap (λ (m : ℕ). Some (line (checkpoints s) s.pending (m, part_of_entry e))) i_is
    ∙ ap (λ (ns : List ℕ). Some (line ns s.pending (i, part_of_entry e))) kept
    ∙ ap₂ (λ (a b : ℕ). Some (told_line e e.low a b)) (ap (λ (o : Option ℕ). unwrap_or o 0) (mapped_there (λ (x : PartEntry). x.checkpoint) es i e here)) (names_at cs i c l is)
    ∙ ap₂ (λ (k : List ℕ) (b : ℕ). Some (told_line e k e.checkpoint b)) (sym begins) (sym held)

-- no partition is missing
pub never_missing : {A : Type 0} (xs : List A) (i : ℕ) (o : Option (Bor A)) → ((x : Bor A) → o ≡ Some x → ⊥) → option_copied o ≡ slice_get xs i → i < length xs → ⊥
never_missing xs i None n e l = none_some (e ∙ (there xs i l).1)
  where
    none_some : {B : Type 0} {x : B} → None ≡ Some x → ⊥
    none_some e = cc
never_missing xs i (Some x) n e l = n x refl

pub parts_all : (cat : Catalogue) (n : Numbers) (es : List PartEntry) (ss : List StreamAt) (mem : Memory) (i : ℕ) → length es ≤ i → take i (parts_told (state_with cat n es ss mem)) ≡ parts_told (state_with cat n es ss mem)
parts_all cat n es ss mem i l =
    let s = state_with cat n es ss mem in
    take_all i (parts_told s) (omega (arith, l, long (line (checkpoints s) s.pending) 0 es))
  where
    long : (f : ℕ × Part → model.PartLine) (n : ℕ) (es : List PartEntry) → length (map f (numbered_from n (map part_of_entry es))) ≡ length es
    long f n [] = refl
    long f n (e ∷ es) = ap suc (long f (n + 1) es)

-- ---- the streams

abbrev stream_told : StreamAt → model.StreamLine
stream_told a = record { stream = a.header.stream; offset = a.offset; checkpoint = a.point.checkpoint; closed = a.closed }

stream_number : (n i : ℕ) (ss : List StreamAt) (a : StreamAt) → IsTrue (are_streams n ss) → slice_get ss i ≡ Some a → a.header.stream ≡ n + i
stream_number n i [] a t h = absurd cc
stream_number n zero (s ∷ ss) a t h =
    let p = and_parts (s.header.stream == n && is_item format.One (header_item s.header)) (are_streams (n + 1) ss) t in
    let q = and_parts (s.header.stream == n) (is_item format.One (header_item s.header)) p.0 in
    let d : s ≡ a = cc in
    let e : s.header.stream ≡ n = eqb-true s.header.stream n q.0 in
    ap (λ (x : StreamAt). x.header.stream) (sym d) ∙ e ∙ omega arith
stream_number n (suc i) (s ∷ ss) a t h =
    let p = and_parts (s.header.stream == n && is_item format.One (header_item s.header)) (are_streams (n + 1) ss) t in
    stream_number (n + 1) i ss a p.1 h ∙ omega arith

never_closed : (ps : List Position) (i : ℕ) (a : StreamAt) → slice_get (map stream_of ps) i ≡ Some a → a.closed ≡ false
never_closed [] i a h = absurd cc
never_closed (p ∷ ps) zero a h = let d : stream_of p ≡ a = cc in ap (λ (x : StreamAt). x.closed) (sym d)
never_closed (p ∷ ps) (suc i) a h = never_closed ps i a h

abbrev pub stream_line : ℕ → ℕ → ℕ → StreamLine
stream_line stream offset checkpoint = record { stream = stream; offset = offset; checkpoint = checkpoint }

abbrev line_of : ℕ → ℕ → ℕ → Bool → model.StreamLine
line_of n o c b = record { stream = n; offset = o; checkpoint = c; closed = b }

-- a stream's line is the machine's
pub stream_line_is : (ps : List Position) (i offset checkpoint : ℕ) → IsTrue (are_streams 0 (map stream_of ps)) → i < length (map stream_of ps) → IfSome (slice_get (map stream_of ps) i) (λ a. offset ≡ a.offset) → IfSome (slice_get (map stream_of ps) i) (λ a. checkpoint ≡ a.point.checkpoint)
    → slice_get (map stream_told (map stream_of ps)) i ≡ Some (view_stream (stream_line i offset checkpoint))
stream_line_is ps i offset checkpoint t l o c =
    let ss = map stream_of ps in
    let x = there ss i l in
    let a = x.0 in
    let its : offset ≡ a.offset = subst (λ (y : Option StreamAt). IfSome y (λ a. offset ≡ a.offset)) x.1 o in
    let at : checkpoint ≡ a.point.checkpoint = subst (λ (y : Option StreamAt). IfSome y (λ a. checkpoint ≡ a.point.checkpoint)) x.1 c in
    let number : a.header.stream ≡ i = stream_number 0 i ss a t x.1 ∙ omega arith in
    mapped_there stream_told ss i a x.1
    ∙ ap₂ (λ (n : ℕ) (b : Bool). Some (line_of n a.offset a.point.checkpoint b)) number (never_closed ps i a x.1)
    ∙ ap₂ (λ (x y : ℕ). Some (line_of i x y false)) (sym its) (sym at)
