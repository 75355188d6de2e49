-- What the calls of a map make of the entries that it stands for, where each value stands for another.
use Rattle.std.proofs.Common.{Bool, List, [], ap, cond, false, refl, true, ◌∙◌, ◌∷◌, ◌≡◌}
use Rattle.std.specs.Prelude.{Option, Some, map, option_map}
use Rattle.std.specs.BTreeMap.{insert_entry}
use Rattle.std.specs.Map.{lookup, remove_entry, set_value}
use Rattle.std.specs.Ordering.{match_ordering}
use Rattle.std.specs.declared.cmp.Ordering.{Ordering}
use Rattle.std.specs.declared.cmp.Ordering.TheVariants.{Equal, Greater, Less}

abbrev pub seen : {K X Y : Type 0} → (X → Y) → List (K × X) → List (K × Y)
seen f es = map (λ e. (e.0, f e.1)) es

inserted_by : {K X Y : Type 0} (f : X → Y) (k : K) (v : X) (e : K × X) (es more : List (K × X)) (shown : List (K × Y)) (r : Ordering) → seen f more ≡ shown
    → seen f (match_ordering r ((k, v) ∷ e ∷ es) ((e.0, v) ∷ es) (e ∷ more)) ≡ match_ordering r ((k, f v) ∷ seen f (e ∷ es)) ((e.0, f v) ∷ seen f es) ((e.0, f e.1) ∷ shown)
inserted_by f k v e es more shown Less h = refl
inserted_by f k v e es more shown Equal h = refl
inserted_by {K} {X} {Y} f k v e es more shown Greater h = ap (λ (rest : List (K × Y)). (e.0, f e.1) ∷ rest) h

pub inserted : {K X Y : Type 0} (R : K → K → Ordering) (f : X → Y) (es : List (K × X)) (k : K) (v : X) → seen f (insert_entry R es k v) ≡ insert_entry R (seen f es) k (f v)
inserted R f [] k v = refl
inserted R f (e ∷ es) k v = inserted_by f k v e es (insert_entry R es k v) (insert_entry R (seen f es) k (f v)) (R k e.0) (inserted R f es k v)

removed_by : {K X Y : Type 0} (f : X → Y) (e : K × X) (es more : List (K × X)) (shown : List (K × Y)) (b : Bool) → seen f more ≡ shown → seen f (cond b es (e ∷ more)) ≡ cond b (seen f es) ((e.0, f e.1) ∷ shown)
removed_by f e es more shown true h = refl
removed_by {K} {X} {Y} f e es more shown false h = ap (λ (rest : List (K × Y)). (e.0, f e.1) ∷ rest) h

pub removed : {K X Y : Type 0} (f : X → Y) (test : K → Bool) (es : List (K × X)) → seen f (remove_entry test es) ≡ remove_entry test (seen f es)
removed f test [] = refl
removed f test (e ∷ es) = removed_by f e es (remove_entry test es) (remove_entry test (seen f es)) (test e.0) (removed f test es)

changed_by : {K X Y : Type 0} (f : X → Y) (w : X) (e : K × X) (es more : List (K × X)) (shown : List (K × Y)) (b : Bool) → seen f more ≡ shown
    → seen f (cond b ((e.0, w) ∷ es) (e ∷ more)) ≡ cond b ((e.0, f w) ∷ seen f es) ((e.0, f e.1) ∷ shown)
changed_by f w e es more shown true h = refl
changed_by {K} {X} {Y} f w e es more shown false h = ap (λ (rest : List (K × Y)). (e.0, f e.1) ∷ rest) h

pub changed : {K X Y : Type 0} (f : X → Y) (test : K → Bool) (es : List (K × X)) (w : X) → seen f (set_value test es w) ≡ set_value test (seen f es) (f w)
changed f test [] w = refl
changed f test (e ∷ es) w = changed_by f w e es (set_value test es w) (set_value test (seen f es) (f w)) (test e.0) (changed f test es w)

found_by : {X Y : Type 0} (f : X → Y) (v : X) (o : Option X) (b : Bool) → cond b (Some (f v)) (option_map f o) ≡ option_map f (cond b (Some v) o)
found_by f v o true = refl
found_by f v o false = refl

pub found : {K X Y : Type 0} (f : X → Y) (test : K → Bool) (es : List (K × X)) → lookup test (seen f es) ≡ option_map f (lookup test es)
found f test [] = refl
found f test (e ∷ es) = ap (cond (test e.0) (Some (f e.1))) (found f test es) ∙ found_by f e.1 (lookup test es) (test e.0)
