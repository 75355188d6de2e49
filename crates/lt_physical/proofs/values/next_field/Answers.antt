use Rattle.std.proofs.Common.{ap, subst, sym, ◌++◌, ◌∙◌, ◌≡◌, ℕ, List}
use Rattle.std.specs.Prelude.{MatchOption, ◌≢◌}
use Rattle.std.proofs.lemmas.Bool.Decides.{Decides-eqb}
use Rattle.std.proofs.lemmas.Slice.Eq.{strip_prefix_is}
use Rattle.lt_terms.specs.Layout.{next_field}
use Rattle.lt_physical.proofs.NextFields.{by_more, by_none, by_one, next_not}
use Rattle.lt_physical.proofs.values.next_field.Goals as goal

pub returns-in_default : goal.returns-in_default
returns-in_default c =
    let path = c.args.path.now in
    let longer = c.args.longer.now in
    let z = strip_prefix_is Decides-eqb longer path c.strip_prefix.result c.strip_prefix.ensures.cases in
    let none = subst (λ o. MatchOption o ((rest : List ℕ) → longer ≢ (path ++ rest)) (λ x. longer ≡ path ++ x.now)) c.in_default.is z in
    sym (next_not path longer none)

pub returns-in-len1 : goal.returns-in-len1
returns-in-len1 c =
    let path = c.args.path.now in
    let longer = c.args.longer.now in
    let z = strip_prefix_is Decides-eqb longer path c.strip_prefix.result c.strip_prefix.ensures.cases in
    let some = subst (λ o. MatchOption o ((rest : List ℕ) → longer ≢ (path ++ rest)) (λ x. longer ≡ path ++ x.now)) c.in-Some.is z in
    by_one path c.in-Some.rest.now c.in-len1.len_at_least c.in-len1.len_below ∙ ap (next_field path) (sym some)

pub returns-in_default-rest : goal.returns-in_default-rest
returns-in_default-rest c =
    let path = c.args.path.now in
    let longer = c.args.longer.now in
    let z = strip_prefix_is Decides-eqb longer path c.strip_prefix.result c.strip_prefix.ensures.cases in
    let some = subst (λ o. MatchOption o ((rest : List ℕ) → longer ≢ (path ++ rest)) (λ x. longer ≡ path ++ x.now)) c.in-Some.is z in
    by_none path c.in-Some.rest.now c.in_default-rest.len_below ∙ ap (next_field path) (sym some)

pub returns-in_default-rest-2 : goal.returns-in_default-rest-2
returns-in_default-rest-2 c =
    let path = c.args.path.now in
    let longer = c.args.longer.now in
    let z = strip_prefix_is Decides-eqb longer path c.strip_prefix.result c.strip_prefix.ensures.cases in
    let some = subst (λ o. MatchOption o ((rest : List ℕ) → longer ≢ (path ++ rest)) (λ x. longer ≡ path ++ x.now)) c.in-Some.is z in
    by_more path c.in-Some.rest.now c.in_default-rest.len_at_least ∙ ap (next_field path) (sym some)
