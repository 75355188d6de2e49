-- The tests as the reader makes them are those of a lawful manifest.
use Rattle.std.proofs.Common.{Bool, List, [], ap, ap₂, false, flat_map, map, refl, true, ℕ, ◌∙◌, ◌∷◌, ◌≡◌}
use Rattle.std.specs.Prelude.{length, nat_le, nat_lt, ◌&&◌, ◌==◌, ◌^◌, ◌||◌}
use Rattle.std.specs.List.{list_all, list_any}
use Rattle.std.proofs.lemmas.List.Folds.{list_any-append}
use Rattle.lt_terms.specs.declared.Extent.{Extent}
use Rattle.lt_terms.specs.Key.{tile}
use Rattle.lt_tables.specs.Pump.{Part}
use Rattle.lt_storage.specs.Store.{Manifest, is_delta_entry, is_limit, is_part_entry}
use Rattle.lt_terms.specs.Value.{rises_strictly}
use Rattle.lt_store_codecs.specs.StoreCodec.{has_lawful_parts}
use Rattle.lt_manifest.specs.Rules.{SameMembers, are_streams, fit_together, is_delta, is_in, is_part}

all_same : {A : Type 0} (f g : A → Bool) (xs : List A) → ((x : A) → f x ≡ g x) → list_all f xs ≡ list_all g xs
all_same f g [] h = refl
all_same f g (x ∷ xs) h = ap₂ (λ (a b : Bool). a && b) (h x) (all_same f g xs h)

any_mapped : (ds : List (ℕ × Extent)) (id : ℕ) → is_in (map (λ d. d.0) ds) id ≡ list_any (λ d. d.0 == id) ds
any_mapped [] id = refl
any_mapped (d ∷ ds) id = ap (λ (b : Bool). (d.0 == id) || b) (any_mapped ds id)

any_flat : (ps : List Part) (id : ℕ) → is_in (flat_map (λ p. p.ids) ps) id ≡ list_any (λ p. list_any (λ i. i == id) p.ids) ps
any_flat [] id = refl
any_flat (p ∷ ps) id = list_any-append (λ i. i == id) p.ids (flat_map (λ p. p.ids) ps) ∙ ap (λ (b : Bool). list_any (λ i. i == id) p.ids || b) (any_flat ps id)

reordered : (s l r p f d : Bool) → (s && (l && (r && (p && (f && d))))) ≡ (l && s && p && (r && f && d))
reordered true true true p f d = refl
reordered true true false true f d = refl
reordered true true false false f d = refl
reordered true false r p f d = refl
reordered false true r p f d = refl
reordered false false r p f d = refl

pub lawful_parts : (m : Manifest) (streams : Bool) (known listed : List ℕ) → streams ≡ are_streams m.streams → known ≡ map (λ d. d.0) m.deltas → SameMembers listed (flat_map (λ p. p.ids) m.parts) → fit_together streams known listed m ≡ has_lawful_parts m
lawful_parts m streams known listed are is same =
    let part : (p : Part) → is_part m.minimum m.next_id (map (λ d. d.0) m.deltas) p ≡ is_part_entry m p = λ p.
    ap (λ (b : Bool). nat_le (length p.low) 4096 && nat_lt p.resume (2 ^ 63) && nat_le m.minimum p.resume && rises_strictly p.ids && b)
    (all_same (λ id. is_in (map (λ d. d.0) m.deltas) id && nat_lt id m.next_id) (λ id. list_any (λ d. d.0 == id) m.deltas && nat_lt id m.next_id) p.ids (λ id. ap (λ (b : Bool). b && nat_lt id m.next_id) (any_mapped m.deltas id))) in
    let delta : (d : ℕ × Extent) → is_delta listed d ≡ is_delta_entry m d = λ d.
    ap (λ (b : Bool). nat_lt d.0 (2 ^ 64) && nat_lt d.1.place (2 ^ 64) && nat_lt d.1.length (2 ^ 64) && b) (same d.0 ∙ any_flat m.parts d.0) in
    ap₂ (λ (s : Bool) (known : List ℕ). fit_together s known listed m) are is
    ∙ reordered (are_streams m.streams) (is_limit m.limit) (rises_strictly (map (λ d. d.0) m.deltas)) (tile (map (λ p. p.low) m.parts) && nat_le (length m.parts) 1024 && list_all (is_part m.minimum m.next_id (map (λ d. d.0) m.deltas)) m.parts) (nat_le (length m.deltas) 4096) (list_all (is_delta listed) m.deltas)
    ∙ ap₂ (λ (p d : Bool). is_limit m.limit && are_streams m.streams && (tile (map (λ p. p.low) m.parts) && nat_le (length m.parts) 1024 && p) && (rises_strictly (map (λ d. d.0) m.deltas) && nat_le (length m.deltas) 4096 && d))
    (all_same (is_part m.minimum m.next_id (map (λ d. d.0) m.deltas)) (is_part_entry m) m.parts part) (all_same (is_delta listed) (is_delta_entry m) m.deltas delta)
