-- What is handed over, by name.
use Rattle.std.proofs.Common.{Bool, List, [], ap, ap₂, cond, eqb-true, false, map, refl, subst, sym, true, zero, suc, ℕ, ◌++◌, ◌∙◌, ◌∷◌, ◌≡◌}
use Rattle.std.specs.Prelude.{IsTrue, None, Option, fold, nat_lt, not, zip, ◌&&◌, ◌==◌}
use Rattle.std.specs.List.{AllByRecursion}
use Rattle.std.proofs.lemmas.Bool.{and_parts, ltb-false}
use Rattle.std.proofs.lemmas.List.Sums.{fold-append}
use Rattle.lt_terms.specs.declared.Format.TheVariants as format
use Rattle.lt_world.specs.Feed.{Feed}
use Rattle.lt_tables.specs.Fair.{backward, breaks_at, put_key}
use Rattle.lt_terms.specs.Key.{Range, in_range, same_key}
use Rattle.lt_terms.specs.Log.{Change, Item, batch_item, change_item, change_key, changes_in, changes_of, checkpoint_item, close_item, header_item, is_item}
use Rattle.lt_tables.specs.Pump.{StreamAt, all_delivered, delivered, moved_by, put_name}
use Rattle.lt_tables.specs.Pump.{name_of, put_change}
use Rattle.lt_tables.specs.Schema.{Catalogue, when}
use Rattle.lt_tables.specs.Pump.{names_rise}
use Rattle.lt_tables.specs.Pump.{Part}
use Rattle.lt_tables.specs.Version.{RowVersion, is_ordered, put_version, same_name, stands_before}
use Rattle.lt_lemmas.proofs.ListFacts.{when_none}
use Rattle.lt_lemmas.proofs.MergeLaws.{put-ordered}
use Rattle.lt_lemmas.proofs.PointLaws.{same}
use Rattle.lt_lemmas.proofs.PumpLaws.{as_version, as_versions}
use Rattle.lt_fair.proofs.FaultParts.{not_shut}
use Rattle.lt_pump.specs.Given.{AreBehind, IsBehind, all_given, given}
use Rattle.lt_pump.specs.Names.{AreOrderly, NamesFollow, all_names, names_of, part_subs}
use Rattle.lt_pump.specs.Positions.{AreFair, IsOther, Took, breaks_there}
use Rattle.lt_pump.proofs.BehindLaws.{AfterChange, behind_after, behind_passed, behind_self, others}
use Rattle.lt_pump.proofs.GivenLaws.{all_after, given_append, given_nothing}
use Rattle.lt_pump.proofs.OthersLaws.{no_batch, open_there}
use Rattle.lt_pump.proofs.PassLaws.{Passes, passes}

-- ---- one change

no : (b : Bool) → (b ≡ true → ⊥) → b ≡ false
no true h = absurd (h refl)
no false h = refl

other_name : (c d : Change) → IsOther c d → (same_key (change_key c) (change_key d) && c.ts == d.ts) ≡ false
other_name c d o = no _ (λ e. let p = and_parts (same_key (change_key c) (change_key d)) (c.ts == d.ts) e in o (sym (same (change_key c) (change_key d) p.0)) (sym (eqb-true c.ts d.ts p.1)))

put_by : (c d : Change) (ds : List Change) (b x : Bool) → x ≡ false → names_of (put_change c ds) ≡ put_name (name_of c) (names_of ds)
    → names_of (cond b (c ∷ d ∷ ds) (d ∷ put_change c ds)) ≡ cond b (name_of c ∷ name_of d ∷ names_of ds) (cond x (name_of d ∷ names_of ds) (name_of d ∷ put_name (name_of c) (names_of ds)))
put_by c d ds true x e h = refl
put_by c d ds false x e h = ap (λ (ns : List (List ℕ × ℕ)). name_of d ∷ ns) h ∙ sym (ap (λ (y : Bool). cond y (name_of d ∷ names_of ds) (name_of d ∷ put_name (name_of c) (names_of ds))) e)

pub names_put : (c : Change) (ds : List Change) → AllByRecursion (IsOther c) ds → names_of (put_change c ds) ≡ put_name (name_of c) (names_of ds)
names_put c [] a = refl
names_put c (d ∷ ds) a = put_by c d ds _ (same_key (change_key c) (change_key d) && c.ts == d.ts) (other_name c d a.0) (names_put c ds a.1)

-- a change stands as a version of its name would
abbrev as_one : Change → RowVersion
as_one c = as_version (name_of c)

abbrev as_all : List Change → List RowVersion
as_all cs = map as_version (names_of cs)

version_by : (c d : Change) (ds : List Change) (b x : Bool) → x ≡ false → as_all (put_change c ds) ≡ put_version (as_one c) (as_all ds)
    → as_all (cond b (c ∷ d ∷ ds) (d ∷ put_change c ds)) ≡ cond b (as_one c ∷ as_one d ∷ as_all ds) (cond x (as_one c ∷ as_all ds) (as_one d ∷ put_version (as_one c) (as_all ds)))
version_by c d ds true x e h = refl
version_by c d ds false x e h = ap (λ (vs : List RowVersion). as_one d ∷ vs) h ∙ sym (ap (λ (y : Bool). cond y (as_one c ∷ as_all ds) (as_one d ∷ put_version (as_one c) (as_all ds))) e)

version_put : (c : Change) (ds : List Change) → AllByRecursion (IsOther c) ds → as_all (put_change c ds) ≡ put_version (as_one c) (as_all ds)
version_put c [] a = refl
version_put c (d ∷ ds) a = version_by c d ds _ (same_key (change_key c) (change_key d) && c.ts == d.ts) (other_name c d a.0) (version_put c ds a.1)

pub order_put : (c : Change) (ds : List Change) → AllByRecursion (IsOther c) ds → IsTrue (names_rise (names_of ds)) → IsTrue (names_rise (names_of (put_change c ds)))
order_put c ds a h =
    as_versions (names_of (put_change c ds)) ∙ ap is_ordered (version_put c ds a) ∙ put-ordered (as_one c) (as_all ds) (sym (as_versions (names_of ds)) ∙ h)

-- ---- one change, to the lists

given_by : (c : Change) (h : List Change) (b : Bool) → AllByRecursion (IsOther c) h → names_of (cond b (put_change c h) h) ≡ cond b (put_name (name_of c) (names_of h)) (names_of h)
given_by c h true a = names_put c h a
given_by c h false a = refl

names_one : (c : Change) (rs : List Range) (ps : List Part) (held : List (List Change)) → AllByRecursion (AllByRecursion (IsOther c)) held → all_names (all_given (c ∷ []) (part_subs rs ps) held) ≡ all_delivered (c ∷ []) rs ps (all_names held)
names_one c [] ps held a = refl
names_one c (r ∷ rs) [] held a = refl
names_one c (r ∷ rs) (p ∷ ps) [] a = refl
names_one c (r ∷ rs) (p ∷ ps) (h ∷ hs) a =
    ap₂ (λ (ns : List (List ℕ × ℕ)) (rest : List (List (List ℕ × ℕ))). ns ∷ rest) (given_by c h (in_range (change_key c) r && nat_lt p.resume c.ts) a.0) (names_one c rs ps hs a.1)

delivered_nothing : (rs : List Range) (ps : List Part) (ns : List (List (List ℕ × ℕ))) → all_delivered [] rs ps ns ≡ ns
delivered_nothing [] ps ns = refl
delivered_nothing (r ∷ rs) [] ns = refl
delivered_nothing (r ∷ rs) (p ∷ ps) [] = refl
delivered_nothing (r ∷ rs) (p ∷ ps) (n ∷ ns) = ap (λ (rest : List (List (List ℕ × ℕ))). n ∷ rest) (delivered_nothing rs ps ns)

delivered_then : (c : Change) (cs : List Change) (rs : List Range) (ps : List Part) (ns : List (List (List ℕ × ℕ))) → all_delivered (c ∷ cs) rs ps ns ≡ all_delivered cs rs ps (all_delivered (c ∷ []) rs ps ns)
delivered_then c cs [] ps ns = refl
delivered_then c cs (r ∷ rs) [] ns = refl
delivered_then c cs (r ∷ rs) (p ∷ ps) [] = refl
delivered_then c cs (r ∷ rs) (p ∷ ps) (n ∷ ns) = ap (λ (rest : List (List (List ℕ × ℕ))). delivered (c ∷ cs) r p n ∷ rest) (delivered_then c cs rs ps ns)

order_by : (c : Change) (h : List Change) (b : Bool) → AllByRecursion (IsOther c) h → IsTrue (names_rise (names_of h)) → IsTrue (names_rise (names_of (cond b (put_change c h) h)))
order_by c h true a o = order_put c h a o
order_by c h false a o = o

order_one : (c : Change) (subs : List (Range × ℕ)) (held : List (List Change)) → AllByRecursion (AllByRecursion (IsOther c)) held → AreOrderly held → AreOrderly (all_given (c ∷ []) subs held)
order_one c [] held a o = o
order_one c (s ∷ ss) [] a o = o
order_one c (s ∷ ss) (h ∷ hs) a o = (order_by c h (in_range (change_key c) s.0 && nat_lt s.1 c.ts) a.0 o.0, order_one c ss hs a.1 o.1)

-- ---- one item: what is held stays behind

abbrev passed : Catalogue → StreamAt → Change → Type 0
passed cat a c = Passes a.header cat a.point c

passes_there : (cat : Catalogue) (a : StreamAt) (c : Change) → breaks_there cat a (change_item c) ≡ None → passed cat a c
passes_there cat a c e = passes a.header cat a.point c (open_there a.header cat a.closed a.point (change_item c) e)

behind_change : (cat : Catalogue) (a : StreamAt) (c : Change) (subs : List (Range × ℕ)) (held : List (List Change)) → passed cat a c → AreBehind a held → AreBehind (moved_by (change_item c ∷ []) a) (all_given (c ∷ []) subs held)
behind_change cat a c subs held p h =
    let b = moved_by (change_item c ∷ []) a in
    let after : AfterChange a b c = record { header = refl; checkpoint = refl; window = refl } in
    all_after (IsBehind b) c subs held (behind_self a b c after) (behind_after a b cat c held p after h)

behind_checkpoint : (cat : Catalogue) (a : StreamAt) (t : ℕ) (held : List (List Change)) → breaks_there cat a (checkpoint_item t) ≡ None → AreBehind a held → AreBehind (moved_by (checkpoint_item t ∷ []) a) held
behind_checkpoint cat a t held e h =
    let g : when (nat_lt t a.point.checkpoint) (backward a.point.checkpoint) ≡ None = sym (not_shut a.header cat a.point (checkpoint_item t)) ∙ open_there a.header cat a.closed a.point (checkpoint_item t) e in
    let l = ltb-false t a.point.checkpoint (when_none (nat_lt t a.point.checkpoint) (backward a.point.checkpoint) g) in
    behind_passed a (moved_by (checkpoint_item t ∷ []) a) t held (record { header = refl; later = l; checkpoint = refl; window = refl }) h

-- ---- one after another

pub names_taken : (cat : Catalogue) (a : StreamAt) (items : List Item) (rs : List Range) (ps : List Part) (held : List (List Change)) → AreFair cat a items → AreBehind a held → all_names (all_given (changes_of items) (part_subs rs ps) held) ≡ all_delivered (changes_of items) rs ps (all_names held)
names_taken cat a [] rs ps held f h = ap all_names (given_nothing (part_subs rs ps) held) ∙ sym (delivered_nothing rs ps (all_names held))
names_taken cat a (header_item k ∷ items) rs ps held f h = names_taken cat (moved_by (header_item k ∷ []) a) items rs ps held f.2 h
names_taken cat a (change_item c ∷ items) rs ps held f h =
    let p = passes_there cat a c f.1 in
    let subs = part_subs rs ps in
    ap all_names (given_append (c ∷ []) (changes_of items) subs held)
    ∙ names_taken cat (moved_by (change_item c ∷ []) a) items rs ps (all_given (c ∷ []) subs held) f.2 (behind_change cat a c subs held p h)
    ∙ ap (all_delivered (changes_of items) rs ps) (names_one c rs ps held (others a cat c held p h)) ∙ sym (delivered_then c (changes_of items) rs ps (all_names held))
names_taken cat a (checkpoint_item t ∷ items) rs ps held f h = names_taken cat (moved_by (checkpoint_item t ∷ []) a) items rs ps held f.2 (behind_checkpoint cat a t held f.1 h)
names_taken cat a (batch_item t cs ∷ items) rs ps held f h = no_batch _ t cs f.0
names_taken cat a (close_item first count ∷ items) rs ps held f h = names_taken cat (moved_by (close_item first count ∷ []) a) items rs ps held f.2 h

pub order_taken : (cat : Catalogue) (a : StreamAt) (items : List Item) (subs : List (Range × ℕ)) (held : List (List Change)) → AreFair cat a items → AreBehind a held → AreOrderly held → AreOrderly (all_given (changes_of items) subs held)
order_taken cat a [] subs held f h o = subst AreOrderly (sym (given_nothing subs held)) o
order_taken cat a (header_item k ∷ items) subs held f h o = order_taken cat (moved_by (header_item k ∷ []) a) items subs held f.2 h o
order_taken cat a (change_item c ∷ items) subs held f h o =
    let p = passes_there cat a c f.1 in
    subst AreOrderly (sym (given_append (c ∷ []) (changes_of items) subs held))
    (order_taken cat (moved_by (change_item c ∷ []) a) items subs (all_given (c ∷ []) subs held) f.2 (behind_change cat a c subs held p h) (order_one c subs held (others a cat c held p h) o))
order_taken cat a (checkpoint_item t ∷ items) subs held f h o = order_taken cat (moved_by (checkpoint_item t ∷ []) a) items subs held f.2 (behind_checkpoint cat a t held f.1 h) o
order_taken cat a (batch_item t cs ∷ items) subs held f h o = no_batch _ t cs f.0
order_taken cat a (close_item first count ∷ items) subs held f h o = order_taken cat (moved_by (close_item first count ∷ []) a) items subs held f.2 h o

pub follow : NamesFollow
follow = record {
  put = names_put;
  order = order_put;
  taken = λ told cat rs ps a b held held' t h. ap all_names t.given ∙ names_taken cat a t.items rs ps held t.fair h;
  orderly = λ told cat subs a b held held' t h o. subst AreOrderly (sym t.given) (order_taken cat a t.items subs held t.fair h o);
}
