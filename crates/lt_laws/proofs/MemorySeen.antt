-- What is seen of the changes in memory: as much as of their names in the source.
use Rattle.std.proofs.Common.{Bool, List, [], ap, cond, eq-eqb, eqb-true, false, refl, sym, true, ℕ, ◌∙◌, ◌∷◌, ◌≡◌}
use Rattle.std.specs.Prelude.{Contains, IsTrue, None, Option, Some, filter, find, map, option_map, ◌==◌}
use Rattle.std.proofs.lemmas.Bool.{and_from, and_parts, false≢true}
use Rattle.std.specs.List.{AllByRecursion, cons_option}
use Rattle.lt_terms.specs.Log.{Change, change_key}
use Rattle.lt_terms.specs.Key.{same_key}
use Rattle.lt_tables.specs.Row.{is_in_time}
use Rattle.lt_tables.specs.Pump.{name_of}
use Rattle.lt_tables.specs.Schema.{Catalogue}
use Rattle.lt_tables.specs.Version.{RowVersion, seen}
use Rattle.lt_machine.specs.Machine.{State, cat_of, first_below, of_query, query_interval, query_of, ranges_of, registered_named, seen_pending, version_asked}
use Rattle.lt_machine.specs.Outside.{memory_versions}
use Rattle.lt_lemmas.proofs.PointLaws.{itself, same}
use Rattle.lt_lemmas.proofs.ListFacts.{find_held}
use Rattle.lt_laws.proofs.HeldLaws.{once}
use Rattle.lt_laws.proofs.ScanLaws.{is_named}
use Rattle.lt_laws.proofs.ListFacts.{held_is_found}
use Rattle.lt_machine.specs.Machine as machine

-- each key's changes of the source rise by timestamp
abbrev pub AreInTime : List Change → Type 0
AreInTime source = (key : List ℕ) → IsTrue (is_in_time key source)

named_once : (source : List Change) (table : ℕ) (c d : Change) → AreInTime source → Contains source c → Contains source d → is_named table (name_of c) d ≡ true → d ≡ c
named_once source table c d time h i e =
    let p = and_parts (same_key (change_key d) (change_key c)) (d.ts == c.ts) (and_parts (d.table == table) (machine.named (name_of c) d) e).1 in
    once (change_key c) source (time (change_key c)) d c i h (same (change_key d) (change_key c) p.0) refl (eqb-true d.ts c.ts p.1)

names_itself : (table : ℕ) (c : Change) → (c.table == table) ≡ true → is_named table (name_of c) c ≡ true
names_itself table c e = and_from _ _ e (and_from _ _ (itself (change_key c)) (eq-eqb c.ts c.ts refl))

named_found_by : (source : List Change) (table : ℕ) (c : Change) (o : Option Change) (b : Bool) → AreInTime source → Contains source c → find (is_named table (name_of c)) source ≡ o → (c.table == table) ≡ b → o ≡ cond b (Some c) None
named_found_by source table c None true time h f e = let x = held_is_found (is_named table (name_of c)) source c h (names_itself table c e) in let d : None ≡ Some x.0 = sym f ∙ x.1 in cc
named_found_by source table c None false time h f e = refl
named_found_by source table c (Some d) true time h f e = let x = find_held (is_named table (name_of c)) source d f in ap Some (named_once source table c d time h x.0 x.1)
named_found_by source table c (Some d) false time h f e =
    let x = find_held (is_named table (name_of c)) source d f in
    let t : (d.table == table) ≡ true = (and_parts (d.table == table) (machine.named (name_of c) d) x.1).0 in
    absurd (false≢true (sym e ∙ ap (λ (y : Change). y.table == table) (sym (named_once source table c d time h x.0 x.1)) ∙ t))

seen_one : (cat : Catalogue) (c : Change) (cs : List Change) (vs : List RowVersion) (b : Bool) → vs ≡ map (seen cat) cs → cons_option (option_map (seen cat) (cond b (Some c) None)) vs ≡ map (seen cat) (cond b (c ∷ cs) cs)
seen_one cat c cs vs true e = ap (λ (x : List RowVersion). seen cat c ∷ x) e
seen_one cat c cs vs false e = e

pub memory_seen : (cat : Catalogue) (source : List Change) (table : ℕ) (cs : List Change) → AreInTime source → AllByRecursion (Contains source) cs → seen_pending source cat (map name_of cs) table ≡ memory_versions cat cs table
memory_seen cat source table [] time a = refl
memory_seen cat source table (c ∷ cs) time a =
    ap (λ (o : Option Change). cons_option (option_map (seen cat) o) (seen_pending source cat (map name_of cs) table))
    (named_found_by source table c (find (is_named table (name_of c)) source) (c.table == table) time a.0 refl refl)
    ∙ seen_one cat c (filter (λ c. c.table == table) cs) (seen_pending source cat (map name_of cs) table) (c.table == table) (memory_seen cat source table cs time a.1)
