-- What the tests' changes are, without one of them.
use Rattle.std.proofs.Common.{◌≡◌, ℕ, List, [], ◌∷◌, refl, sym, ap, ◌∙◌, true, false, eq-eqb}
use Rattle.std.specs.Prelude.{Bool, cond, not, ◌==◌, ◌&&◌}
use Rattle.std.specs.List.{AllByRecursion}
use Rattle.std.proofs.lemmas.Bool.{and_from}
use Rattle.lt_terms.specs.Key.{same_key}
use Rattle.lt_terms.specs.Log.{Change, change_key}
use Rattle.lt_tables.specs.Pump.{without_change}
use Rattle.lt_lemmas.proofs.MergeLaws.{same-itself}

module _ (key : List ℕ) (ts : ℕ) where
  abbrev pub IsOther : Change → Type 0
  IsOther c = (change_key c ≡ key) → c.ts ≡ ts → ⊥

  other : (c : Change) → (same_key (change_key c) key && c.ts == ts) ≡ false → IsOther c
  other c h p q = let named : (same_key (change_key c) key && c.ts == ts) ≡ true = and_from (same_key (change_key c) key) (c.ts == ts) (ap (λ k. same_key k key) p ∙ same-itself key) (eq-eqb c.ts ts q) in absurd (clash (sym h ∙ named))
    where
      clash : false ≡ true → ⊥
      clash e = cc

  fresh-by : (c : Change) (cs : List Change) (b : Bool) → (same_key (change_key c) key && c.ts == ts) ≡ b → AllByRecursion IsOther (without_change key ts cs)
      → AllByRecursion IsOther (cond (not b) (c ∷ without_change key ts cs) (without_change key ts cs))
  fresh-by c cs true h i = i
  fresh-by c cs false h i = (other c h, i)

  -- the name of a change that was taken out is free
  pub fresh-without : (cs : List Change) → AllByRecursion IsOther (without_change key ts cs)
  fresh-without [] = tt
  fresh-without (c ∷ cs) = fresh-by c cs (same_key (change_key c) key && c.ts == ts) refl (fresh-without cs)
