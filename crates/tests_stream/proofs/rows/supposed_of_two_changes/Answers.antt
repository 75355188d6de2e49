use Rattle.std.proofs.Common.{Bool, [], cond, false, map, refl, true, ◌∷◌, ◌≡◌}
use Rattle.std.specs.Str.{is_utf8, chars}
use lib.Utf8.{encode}
use Rattle.lt_examples.specs.Examples.{inserted, updated}
use Rattle.lt_terms.specs.Key.{same_key}
use Rattle.lt_terms.specs.Log.{Change, change_key}
use Rattle.lt_terms.specs.Value.{rises_strictly}
use Rattle.tests_stream.proofs.rows.supposed_of_two_changes.Goals as goal

rise_by : (a b : Bool) → rises_strictly (map (λ (c : Change). c.ts) (cond a (inserted ∷ cond b (updated ∷ []) []) (cond b (updated ∷ []) []))) ≡ true
rise_by true true = refl
rise_by true false = refl
rise_by false true = refl
rise_by false false = refl

pub returns-clause-in_time : goal.returns-clause-in_time
returns-clause-in_time c = λ key. rise_by (same_key (change_key inserted) key) (same_key (change_key updated) key)

pub returns-clause-shaped : goal.returns-clause-shaped
unfolding is_utf8 chars encode
returns-clause-shaped c = (refl, (refl, tt))
