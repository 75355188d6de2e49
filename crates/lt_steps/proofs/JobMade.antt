-- What a job has made after the keys that it has taken, table by table: the front of its output, which a further step goes on with.
use Rattle.std.proofs.Common.{Bool, List, [], ap, ap₂, append-nil, append_assoc, arith, cond, drop, false, fold, leb-false, leb-true, le-leb, le-ltb, length, ltb-false, refl, subst, suc, sym, take, take_all, take-append-drop, true, zero, ℕ, ◌+◌, ◌++◌, ◌-◌, ◌<◌, ◌∙◌, ◌∷◌, ◌≡◌, ◌≤◌}
use Rattle.std.specs.Prelude.{IsTrue, filter, flat_map, if◌then◌else◌, map, min, nat_le, nat_lt, sum}
use Rattle.std.specs.List.{AllByRecursion}
use Rattle.std.proofs.lemmas.List.{map-append}
use Rattle.lt_terms.specs.declared.Progress.TheVariants as progress
use Rattle.lt_storage.specs.Bundle.{cut, cut_groups, grouped}
use Rattle.lt_terms.specs.Layout.{Leaf}
use Rattle.lt_machine.specs.Machine.{Job, State, job_after, job_keys, job_progress, not_empty, table_numbers}
use Rattle.lt_machine.specs.Outside.{bundles_after, bundles_made, bundles_under, full_bundles, input_keys, job_bundles, made_of, next_bundles, tables_after}
use Rattle.lt_tables.specs.Schema.{carriers}
use Rattle.lt_storage.specs.Store.{Delta, carried_versions, deltas_of, merged_in}
use Rattle.lt_tables.specs.Version.{RowVersion, collapse, is_ordered, merge}
use Rattle.lt_terms.specs.Key.{same_key}
use Rattle.lt_laws.proofs.ListLaws.{grouped-flat}
use Rattle.lt_codecs.proofs.ListFacts.{all_front, all_map}
use Rattle.lt_lemmas.proofs.MergeLaws.{clip-ordered}
use Rattle.lt_laws.proofs.MergeLaws.{merge-ordered}
use Rattle.lt_lemmas.proofs.SoundLaws.{pick}
use Rattle.lt_steps.proofs.JobPieces.{AreKeyless, IsFront, cut_front, flat, full_front, groups_settled, parted_at}
use Rattle.lt_steps.specs.Jobs.{JobMakes}

-- ---- fronts of lists

front_itself : {A : Type 0} (xs ys : List A) → xs ≡ ys → IsFront xs ys
front_itself xs ys e = ([], sym e ∙ sym (append-nil xs))

front_mapped : {A B : Type 0} (f : A → B) (xs ys : List A) → IsFront xs ys → IsFront (map f xs) (map f ys)
front_mapped f xs ys h = (map f h.0, ap (map f) h.1 ∙ map-append f xs h.0)

-- the front of a list is a front of what goes on behind it
front_before : {A : Type 0} (xs ys zs : List A) → IsFront xs ys → IsFront (xs ++ []) (ys ++ zs)
front_before xs ys zs h = (h.0 ++ zs, ap (λ l. l ++ zs) h.1 ∙ append_assoc xs h.0 zs ∙ ap (λ l. l ++ (h.0 ++ zs)) (sym (append-nil xs)))

front_behind : {A : Type 0} (xs ys zs us : List A) → xs ≡ ys → IsFront zs us → IsFront (xs ++ zs) (ys ++ us)
front_behind xs ys zs us e h = (h.0, ap₂ (λ a b. a ++ b) (sym e) h.1 ∙ sym (append_assoc xs zs h.0))

take_front : {A : Type 0} (xs ys : List A) → take (length xs) (xs ++ ys) ≡ xs
take_front [] ys = refl
take_front (x ∷ xs) ys = ap (λ l. x ∷ l) (take_front xs ys)

drop_front : {A : Type 0} (xs ys : List A) → drop (length xs) (xs ++ ys) ≡ ys
drop_front [] ys = refl
drop_front (x ∷ xs) ys = drop_front xs ys

pub front_taken : {A : Type 0} (xs ys : List A) → IsFront xs ys → xs ≡ take (length xs) ys
front_taken xs ys h = sym (take_front xs h.0) ∙ ap (take (length xs)) (sym h.1)

pub front_more : {A : Type 0} (xs ys : List A) → IsFront xs ys → ys ≡ xs ++ drop (length xs) ys
front_more xs ys h = h.1 ∙ ap (λ l. xs ++ l) (sym (drop_front xs h.0) ∙ ap (drop (length xs)) (sym h.1))

-- of two fronts of a list what the longer one has more goes on in the list
front_next : {A : Type 0} (xs ys zs : List A) → IsFront xs ys → IsFront ys zs → IsFront (drop (length xs) ys) (drop (length xs) zs)
front_next xs ys zs h i =
    let more : drop (length xs) ys ≡ h.0 = ap (drop (length xs)) h.1 ∙ drop_front xs h.0 in
    let whole : drop (length xs) zs ≡ h.0 ++ i.0 = ap (drop (length xs)) (i.1 ∙ ap (λ l. l ++ i.0) h.1 ∙ append_assoc xs h.0 i.0) ∙ drop_front xs (h.0 ++ i.0) in
    (i.0, whole ∙ ap (λ l. l ++ i.0) (sym more))

-- ---- one table

made_nothing_by : (b : Bool) (m : ℕ) → cond b (collapse m []) [] ≡ []
unfolding collapse
made_nothing_by true m = refl
made_nothing_by false m = refl

made_nothing : (j : Job) → made_of j [] ≡ []
made_nothing j = made_nothing_by j.is_major j.minimum

cut_nothing : (layout : List Leaf) → cut layout [] ≡ []
unfolding cut
cut_nothing layout = refl

none_by : (layout : List Leaf) (vs : List RowVersion) (b : Bool) → vs ≡ [] → cond b (cut layout vs) (full_bundles layout [] (grouped vs)) ≡ []
none_by layout vs true e = ap (cut layout) e ∙ cut_nothing layout
none_by layout vs false e = ap (λ (x : List RowVersion). full_bundles layout [] (grouped x)) e

none_after : (layout : List Leaf) (j : Job) (keys : List (List RowVersion)) → bundles_after layout j keys 0 ≡ []
none_after layout j keys = none_by layout (made_of j []) (nat_le (length keys) 0) (made_nothing j)

whole_by : (layout : List Leaf) (j : Job) (vs : List RowVersion) (n : ℕ) → length (grouped vs) ≤ n → made_of j (flat (take n (grouped vs))) ≡ made_of j vs
whole_by layout j vs n l = ap (made_of j) (ap flat (take_all n (grouped vs) l) ∙ grouped-flat vs)

-- with all keys of the table all its bundles are made
all_after : (layout : List Leaf) (j : Job) (vs : List RowVersion) (n : ℕ) → length (grouped vs) ≤ n → bundles_after layout j (grouped vs) n ≡ cut layout (made_of j vs)
all_after layout j vs n l =
    let kept = made_of j (flat (take n (grouped vs))) in
    ap (λ (b : Bool). cond b (cut layout kept) (full_bundles layout [] (grouped kept))) (le-leb (length (grouped vs)) n l) ∙ ap (cut layout) (whole_by layout j vs n l)

part_is : (layout : List Leaf) (j : Job) (vs : List RowVersion) (n : ℕ) → nat_le (length (grouped vs)) n ≡ false → bundles_after layout j (grouped vs) n ≡ full_bundles layout [] (grouped (made_of j (flat (take n (grouped vs)))))
part_is layout j vs n e = let kept = made_of j (flat (take n (grouped vs))) in ap (λ (b : Bool). cond b (cut layout kept) (full_bundles layout [] (grouped kept))) e

flat_parts : (xs ys : List (List RowVersion)) → flat (xs ++ ys) ≡ flat xs ++ flat ys
flat_parts [] ys = refl
flat_parts (x ∷ xs) ys = ap (λ (l : List RowVersion). x ++ l) (flat_parts xs ys) ∙ sym (append_assoc x (flat xs) (flat ys))

-- the keys taken, those after them, and what a job makes of all
pub taken_parts : (j : Job) (xs ys : List (List RowVersion)) → AreKeyless (flat xs) (flat ys) → grouped (made_of j (flat (xs ++ ys))) ≡ grouped (made_of j (flat xs)) ++ grouped (made_of j (flat ys))
taken_parts j xs ys a = ap (λ (l : List RowVersion). grouped (made_of j l)) (flat_parts xs ys) ∙ groups_settled j.is_major j.minimum (flat xs) (flat ys) a

cut_is : (layout : List Leaf) (vs : List RowVersion) → cut layout vs ≡ cut_groups layout [] (grouped vs)
unfolding cut
cut_is layout vs = refl

front_of_cut : (layout : List Leaf) (j : Job) (vs : List RowVersion) (n : ℕ) → IsTrue (is_ordered vs) → IsFront (bundles_after layout j (grouped vs) n) (cut layout (made_of j vs))
front_of_cut layout j vs n o = pick (nat_le (length (grouped vs)) n)
    (λ e. front_itself (bundles_after layout j (grouped vs) n) (cut layout (made_of j vs)) (all_after layout j vs n (leb-true (length (grouped vs)) n e)))
    (λ e.
    let gs = grouped vs in
    let whole : grouped (made_of j vs) ≡ grouped (made_of j (flat (take n gs))) ++ grouped (made_of j (flat (drop n gs)))
    = ap (λ (l : List RowVersion). grouped (made_of j l)) (sym (grouped-flat vs) ∙ ap flat (sym (take-append-drop n gs))) ∙ taken_parts j (take n gs) (drop n gs) (parted_at vs n o) in
    subst (λ (xs : List (List RowVersion)). IsFront xs (cut layout (made_of j vs))) (sym (part_is layout j vs n e))
    (subst (IsFront (full_bundles layout [] (grouped (made_of j (flat (take n gs)))))) (sym (cut_is layout (made_of j vs) ∙ ap (cut_groups layout []) whole)) (cut_front layout [] (grouped (made_of j (flat (take n gs)))) (grouped (made_of j (flat (drop n gs)))))))

-- the keys between two places
record Between (gs : List (List RowVersion)) (n m : ℕ) : Type 0 where
  middle : List (List RowVersion)
  more : take m gs ≡ take n gs ++ middle
  left : drop n gs ≡ middle ++ drop m gs

between : (gs : List (List RowVersion)) (n m : ℕ) → n ≤ m → Between gs n m
between [] zero zero h = record { middle = []; more = refl; left = refl }
between [] zero (suc m) h = record { middle = []; more = refl; left = refl }
between [] (suc n) zero h = record { middle = []; more = refl; left = refl }
between [] (suc n) (suc m) h = record { middle = []; more = refl; left = refl }
between (g ∷ gs) zero m h = record { middle = take m (g ∷ gs); more = refl; left = sym (take-append-drop m (g ∷ gs)) }
between (g ∷ gs) (suc n) zero h = absurd (omega (arith, h))
between (g ∷ gs) (suc n) (suc m) h = let b = between gs n m (omega (arith, h)) in record { middle = b.middle; more = ap (λ (l : List (List RowVersion)). g ∷ l) b.more; left = b.left }

pub keyless_front : (xs ys zs : List RowVersion) → AreKeyless xs (ys ++ zs) → AreKeyless xs ys
keyless_front xs ys zs a = all_map (λ x. AllByRecursion (λ y. same_key x.key y.key ≡ false) (ys ++ zs)) (λ x. AllByRecursion (λ y. same_key x.key y.key ≡ false) ys) xs (λ x h. all_front (λ y. same_key x.key y.key ≡ false) ys zs h) a

front_of_later : (layout : List Leaf) (j : Job) (vs : List RowVersion) (n m : ℕ) → n ≤ m → IsTrue (is_ordered vs) → IsFront (bundles_after layout j (grouped vs) n) (bundles_after layout j (grouped vs) m)
front_of_later layout j vs n m h o = pick (nat_le (length (grouped vs)) m)
    (λ e. subst (IsFront (bundles_after layout j (grouped vs) n)) (sym (all_after layout j vs m (leb-true (length (grouped vs)) m e))) (front_of_cut layout j vs n o))
    (λ e.
    let gs = grouped vs in
    let few : m < length gs = leb-false (length gs) m e in
    let part : nat_le (length gs) n ≡ false = not_le (length gs) n (omega (arith, few, h)) in
    let b = between gs n m h in
    let apart : AreKeyless (flat (take n gs)) (flat b.middle) = keyless_front (flat (take n gs)) (flat b.middle) (flat (drop m gs)) (subst (AreKeyless (flat (take n gs))) (ap flat b.left ∙ flat_parts b.middle (drop m gs)) (parted_at vs n o)) in
    let later : grouped (made_of j (flat (take m gs))) ≡ grouped (made_of j (flat (take n gs))) ++ grouped (made_of j (flat b.middle)) = ap (λ (xs : List (List RowVersion)). grouped (made_of j (flat xs))) b.more ∙ taken_parts j (take n gs) b.middle apart in
    subst (λ (xs : List (List RowVersion)). IsFront xs (bundles_after layout j gs m)) (sym (part_is layout j vs n part))
    (subst (IsFront (full_bundles layout [] (grouped (made_of j (flat (take n gs)))))) (sym (part_is layout j vs m e ∙ ap (full_bundles layout []) later)) (full_front layout [] (grouped (made_of j (flat (take n gs)))) (grouped (made_of j (flat b.middle))))))
  where
    not_le : (a b : ℕ) → b < a → nat_le a b ≡ false
    not_le a b h = pick (nat_le a b) (λ e. let l = leb-true a b e in absurd (omega (arith, h, l))) (λ e. e)

-- ---- all tables

abbrev merged : List Delta → Job → ℕ → List RowVersion
merged shelf j t = merged_in j.catalogue shelf j.inputs j.range t

abbrev layout_for : Job → ℕ → List Leaf
layout_for j t = carriers j.catalogue t

abbrev whole_table : List Delta → Job → ℕ → List (List Leaf × List RowVersion)
whole_table shelf j t = bundles_under (layout_for j t) (made_of j (merged shelf j t))

abbrev whole_tables : List Delta → Job → List ℕ → List (List Leaf × List RowVersion)
whole_tables shelf j ts = flat_map (whole_table shelf j) ts

abbrev table_after : List Delta → Job → ℕ → ℕ → List (List Leaf × List RowVersion)
table_after shelf j t n = map (λ b. (layout_for j t, b)) (bundles_after (layout_for j t) j (input_keys shelf j t) n)

pub is_merged : (shelf : List Delta) (j : Job) (t : ℕ) → IsTrue (is_ordered (merged shelf j t))
is_merged shelf j t = clip-ordered j.range (merge (map (carried_versions j.catalogue t) (deltas_of shelf j.inputs))) (merge-ordered (map (carried_versions j.catalogue t) (deltas_of shelf j.inputs)))

table_front : (shelf : List Delta) (j : Job) (t n : ℕ) → IsFront (table_after shelf j t n) (whole_table shelf j t)
table_front shelf j t n = front_mapped (λ b. let x : List Leaf × List RowVersion = (layout_for j t, b) in x) (bundles_after (layout_for j t) j (input_keys shelf j t) n) (cut (layout_for j t) (made_of j (merged shelf j t)))
    (front_of_cut (layout_for j t) j (merged shelf j t) n (is_merged shelf j t))

table_later : (shelf : List Delta) (j : Job) (t n m : ℕ) → n ≤ m → IsFront (table_after shelf j t n) (table_after shelf j t m)
table_later shelf j t n m h = front_mapped (λ b. let x : List Leaf × List RowVersion = (layout_for j t, b) in x) (bundles_after (layout_for j t) j (input_keys shelf j t) n) (bundles_after (layout_for j t) j (input_keys shelf j t) m)
    (front_of_later (layout_for j t) j (merged shelf j t) n m h (is_merged shelf j t))

table_whole : (shelf : List Delta) (j : Job) (t n : ℕ) → length (input_keys shelf j t) ≤ n → table_after shelf j t n ≡ whole_table shelf j t
table_whole shelf j t n l = ap (map (λ b. let x : List Leaf × List RowVersion = (layout_for j t, b) in x)) (all_after (layout_for j t) j (merged shelf j t) n l)

none_begun : (shelf : List Delta) (j : Job) (ts : List ℕ) → tables_after shelf j ts 0 ≡ []
none_begun shelf j [] = refl
none_begun shelf j (t ∷ ts) =
    let none : 0 - length (input_keys shelf j t) ≡ 0 = omega arith in
    ap₂ (λ (xs ys : List (List Leaf × List RowVersion)). xs ++ ys) (ap (map (λ b. let x : List Leaf × List RowVersion = (layout_for j t, b) in x)) (none_after (layout_for j t) j (input_keys shelf j t)))
    (ap (tables_after shelf j ts) none ∙ none_begun shelf j ts)

-- before all keys of a table are taken none of the tables behind it is begun
rest_unbegun : (shelf : List Delta) (j : Job) (t n : ℕ) (ts : List ℕ) → nat_le (length (input_keys shelf j t)) n ≡ false → tables_after shelf j ts (n - length (input_keys shelf j t)) ≡ []
rest_unbegun shelf j t n ts e =
    let few : n < length (input_keys shelf j t) = leb-false (length (input_keys shelf j t)) n e in
    let none : n - length (input_keys shelf j t) ≡ 0 = omega (arith, few) in
    ap (tables_after shelf j ts) none ∙ none_begun shelf j ts

tables_front : (shelf : List Delta) (j : Job) (ts : List ℕ) (n : ℕ) → IsFront (tables_after shelf j ts n) (whole_tables shelf j ts)
tables_front shelf j [] n = ([], refl)
tables_front shelf j (t ∷ ts) n = pick (nat_le (length (input_keys shelf j t)) n)
    (λ e. front_behind (table_after shelf j t n) (whole_table shelf j t) (tables_after shelf j ts (n - length (input_keys shelf j t))) (whole_tables shelf j ts) (table_whole shelf j t n (leb-true (length (input_keys shelf j t)) n e))
    (tables_front shelf j ts (n - length (input_keys shelf j t))))
    (λ e. subst (λ (xs : List (List Leaf × List RowVersion)). IsFront (table_after shelf j t n ++ xs) (whole_tables shelf j (t ∷ ts))) (sym (rest_unbegun shelf j t n ts e))
    (front_before (table_after shelf j t n) (whole_table shelf j t) (whole_tables shelf j ts) (table_front shelf j t n)))

tables_later : (shelf : List Delta) (j : Job) (ts : List ℕ) (n m : ℕ) → n ≤ m → IsFront (tables_after shelf j ts n) (tables_after shelf j ts m)
tables_later shelf j [] n m h = ([], refl)
tables_later shelf j (t ∷ ts) n m h =
    let keys = length (input_keys shelf j t) in
    pick (nat_le keys n)
    (λ e.
    let l : keys ≤ n = leb-true keys n e in
    front_behind (table_after shelf j t n) (table_after shelf j t m) (tables_after shelf j ts (n - keys)) (tables_after shelf j ts (m - keys)) (table_whole shelf j t n l ∙ sym (table_whole shelf j t m (omega (arith, l, h))))
    (tables_later shelf j ts (n - keys) (m - keys) (omega (arith, h))))
    (λ e. subst (λ (xs : List (List Leaf × List RowVersion)). IsFront (table_after shelf j t n ++ xs) (tables_after shelf j (t ∷ ts) m)) (sym (rest_unbegun shelf j t n ts e))
    (front_before (table_after shelf j t n) (table_after shelf j t m) (tables_after shelf j ts (m - keys)) (table_later shelf j t n m h)))

-- ---- all keys

sum_from : (n : ℕ) (ns : List ℕ) → fold (λ a x. a + x) n ns ≡ n + sum ns
sum_from n [] = omega arith
sum_from n (m ∷ ns) = let a = sum_from (n + m) ns in let b = sum_from (0 + m) ns in omega (arith, a, b)

abbrev keys_in : List Delta → Job → List ℕ → ℕ
keys_in shelf j ts = sum (map (λ t. length (input_keys shelf j t)) ts)

tables_whole : (shelf : List Delta) (j : Job) (ts : List ℕ) (n : ℕ) → keys_in shelf j ts ≤ n → tables_after shelf j ts n ≡ whole_tables shelf j ts
tables_whole shelf j [] n h = refl
tables_whole shelf j (t ∷ ts) n h =
    let keys = length (input_keys shelf j t) in
    let both : keys_in shelf j (t ∷ ts) ≡ (0 + keys) + keys_in shelf j ts = sum_from (0 + keys) (map (λ t. length (input_keys shelf j t)) ts) in
    ap₂ (λ (xs ys : List (List Leaf × List RowVersion)). xs ++ ys) (table_whole shelf j t n (omega (arith, h, both))) (tables_whole shelf j ts (n - keys) (omega (arith, h, both)))

-- ---- the output

kept_table : (j : Job) (t : ℕ) (vs : List RowVersion) (rest : List (ℕ × List RowVersion)) (b : Bool) → nat_lt 0 (length vs) ≡ b → flat_map (λ x. bundles_under (layout_for j x.0) x.1) (cond b ((t, vs) ∷ rest) rest) ≡ bundles_under (layout_for j t) vs ++ flat_map (λ x. bundles_under (layout_for j x.0) x.1) rest
kept_table j t vs rest true e = refl
kept_table j t [] rest false e = ap (λ (bs : List (List RowVersion)). map (λ b. let x : List Leaf × List RowVersion = (layout_for j t, b) in x) bs ++ flat_map (λ x. bundles_under (layout_for j x.0) x.1) rest) (sym (cut_nothing (layout_for j t)))
kept_table j t (v ∷ vs) rest false e = let l : length (v ∷ vs) ≤ 0 = ltb-false 0 (length (v ∷ vs)) e in absurd (omega (arith, l))

abbrev with_lists : List Delta → Job → List ℕ → List (ℕ × List RowVersion)
with_lists shelf j ts = map (λ t. (t, made_of j (merged shelf j t))) ts

output_whole : (shelf : List Delta) (j : Job) (ts : List ℕ) → flat_map (λ x. bundles_under (layout_for j x.0) x.1) (filter not_empty (with_lists shelf j ts)) ≡ whole_tables shelf j ts
output_whole shelf j [] = refl
output_whole shelf j (t ∷ ts) =
    kept_table j t (made_of j (merged shelf j t)) (filter not_empty (with_lists shelf j ts)) (nat_lt 0 (length (made_of j (merged shelf j t)))) refl
    ∙ ap (λ (xs : List (List Leaf × List RowVersion)). whole_table shelf j t ++ xs) (output_whole shelf j ts)

pub bundles_whole : (s : State) (j : Job) → job_bundles s j ≡ whole_tables s.durable.shelf j (table_numbers j.catalogue)
bundles_whole s j = output_whole s.durable.shelf j (table_numbers j.catalogue)

-- ---- the job

made_front : (s : State) (j : Job) → IsFront (bundles_made s.durable.shelf j) (job_bundles s j)
made_front s j = subst (IsFront (bundles_made s.durable.shelf j)) (sym (bundles_whole s j)) (tables_front s.durable.shelf j (table_numbers j.catalogue) j.taken)

-- keys that are over count no more
abbrev made_with : List Delta → Job → ℕ → List (List Leaf × List RowVersion)
made_with shelf j n = tables_after shelf j (table_numbers j.catalogue) n

made_capped : (s : State) (j : Job) (n m : ℕ) → min n (job_keys s.durable.shelf j) ≤ m → IsFront (made_with s.durable.shelf j n) (made_with s.durable.shelf j m)
made_capped s j n m h = pick (nat_le n m)
    (λ e. tables_later s.durable.shelf j (table_numbers j.catalogue) n m (leb-true n m e))
    (λ e. let l = leb-false n m e in
    let all : job_keys s.durable.shelf j ≤ m = omega (arith, h, l) in
    let first = tables_whole s.durable.shelf j (table_numbers j.catalogue) n (omega (arith, all, l)) in
    let last = tables_whole s.durable.shelf j (table_numbers j.catalogue) m all in
    front_itself (made_with s.durable.shelf j n) (made_with s.durable.shelf j m) (first ∙ sym last))

step_front : (s : State) (k : ℕ) (j : Job) → IsFront (bundles_made s.durable.shelf j) (bundles_made s.durable.shelf (job_after s k j))
step_front s k j = made_capped s j j.taken (min (j.taken + k) (job_keys s.durable.shelf j)) (omega arith)

next_front : (s : State) (k : ℕ) (j : Job) → IsFront (next_bundles s k j) (drop (length (bundles_made s.durable.shelf j)) (job_bundles s j))
next_front s k j = front_next (bundles_made s.durable.shelf j) (bundles_made s.durable.shelf (job_after s k j)) (job_bundles s j) (step_front s k j) (made_front s (job_after s k j))

done_by : (b : Bool) → (if b then progress.More else progress.Done) ≡ progress.Done → b ≡ false
done_by true e = cc
done_by false e = refl

done_keys : (s : State) (j : Job) → job_progress s j ≡ progress.Done → job_keys s.durable.shelf j ≤ j.taken
done_keys s j e = ltb-false j.taken (job_keys s.durable.shelf j) (done_by (nat_lt j.taken (job_keys s.durable.shelf j)) e)

keys_done : (s : State) (j : Job) → job_keys s.durable.shelf j ≤ j.taken → job_progress s j ≡ progress.Done
keys_done s j h = ap (λ (b : Bool). if b then progress.More else progress.Done) (le-ltb j.taken (job_keys s.durable.shelf j) h)

pub job_makes : JobMakes
job_makes = record {
  front = λ s j. front_taken (bundles_made s.durable.shelf j) (job_bundles s j) (made_front s j);
  steps = λ s k j. front_more (bundles_made s.durable.shelf j) (bundles_made s.durable.shelf (job_after s k j)) (step_front s k j);
  next = λ s k j. front_taken (next_bundles s k j) (drop (length (bundles_made s.durable.shelf j)) (job_bundles s j)) (next_front s k j);
  begins = λ s j e. ap (made_with s.durable.shelf j) e ∙ none_begun s.durable.shelf j (table_numbers j.catalogue);
  done = λ s j e. tables_whole s.durable.shelf j (table_numbers j.catalogue) j.taken (done_keys s j e) ∙ sym (bundles_whole s j);
  left = λ s j. (done_keys s j, keys_done s j);
}
