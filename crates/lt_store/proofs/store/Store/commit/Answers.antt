use Rattle.std.proofs.Common.{List, ap, arith, inl, inr, length, refl, subst, sym, ◌++◌, ◌<◌, ◌∙◌, ◌∷◌}
use Rattle.std.specs.Prelude.{Contains, Err}
use Rattle.std.specs.List.Sorted.{IsPermutation}
use Rattle.std.proofs.lemmas.List.Sorted.{Contains-permutation}
use Rattle.lt_terms.specs.declared.Extent.{Extent}
use Rattle.lt_terms.specs.declared.Root.{Root}
use Rattle.lt_storage.specs.Store.{root_extent}
use Rattle.lt_disk.proofs.Moments.{Device}
use Rattle.lt_image_laws.proofs.Commit.{manifest_filled}
use Rattle.lt_delta.specs.Writing.{TakesGap}
use Rattle.lt_manifest.specs.View.{view_manifest}
use Rattle.lt_space.specs.Extents.{Extents, Takes}
use Rattle.lt_store.specs.Commits.{HasTaken, Replaces}
use Rattle.lt_store.specs.declared.store.Store.{Store}
use Rattle.lt_store.proofs.Leading.{leads_back, leads_off, leads_on}
use Rattle.lt_store.proofs.Giving.{still_taken}
use Rattle.lt_store.proofs.Spaces.{grown, more_there}
use Rattle.lt_store.proofs.store.Store.commit.Given as given
use Rattle.lt_store.proofs.store.Store.commit.Goals as goal

abbrev device : (g : given.Over) → Device g.row.D.Denot
device g = record { state = g.D.Disk.state; counts_now = g.met.D.Disk.counts_now; only_now = g.met.D.Disk.only_now; reads_an_image = g.met.D.Disk.reads_an_image }

-- the extent of the manifest that counts is taken before and after a gap is
former_there : (store : Store) (leaving : List Extent) (after : Extents) (e : Extent) → HasTaken store leaving → Takes e store.space after → Contains after.taken (root_extent store.root)
former_there store leaving after e has takes =
    more_there store.space after e (root_extent store.root) takes (Contains-permutation (root_extent store.root ∷ (leaving ++ has.rest)) store.space.taken (root_extent store.root) has.all (0, omega arith, refl))

pub take_gap-requires : goal.take_gap-requires
take_gap-requires g c = omega (arith, manifest_filled (view_manifest c.args.next.now), ap length c.in_ok-bytes.ensures, c.len.ensures)

pub replace-requires-clause-some : goal.replace-requires-clause-some
replace-requires-clause-some g c = omega (arith, manifest_filled (view_manifest c.args.next.now), ap length c.in_ok-bytes.ensures, ap length c.as_slice.ensures)

pub give-requires : goal.give-requires
give-requires g c = former_there c.args.self.now c.args.leaving.now c.take_gap.new.space c.in_ok-extent.extent c.requires.taken c.in_ok-extent.ensures.taken.taken

pub give_all-requires : goal.give_all-requires
give_all-requires g c =
    let store = c.args.self.now in (
      c.in_ok-extent.extent ∷ c.requires.taken.rest,
      still_taken (root_extent store.root) c.in_ok-extent.extent c.args.leaving.now c.requires.taken.rest store.space c.take_gap.new.space c.give.new.self c.in_ok-extent.ensures.taken.taken c.give.ensures.given c.requires.taken.all,
    )

pub invariant_of-self-in-Ok : goal.invariant_of-self-in-Ok
invariant_of-self-in-Ok g c = record { slot = omega (arith, c.args.self.now.slot, ap (λ (r : Root). r.slot) c.in-Ok.ensures.ok) }

pub returns-in-Ok-clause-kept : goal.returns-in-Ok-clause-kept
returns-in-Ok-clause-kept g c =
    let store = c.args.self.now in
    let e = c.in_ok-extent.extent in
    let takes = c.in_ok-extent.ensures.taken.taken in
    let given = c.give.ensures.given in
    record {
      limit = c.give_all.ensures.limit ∙ sym given.limit ∙ takes.limit;
      broken = c.requires.whole;
      taken = λ rest p. subst (λ (r : Root). IsPermutation (root_extent r ∷ rest) c.give_all.new.space.taken) (sym c.in-Ok.ensures.ok)
          (c.give_all.ensures.rest (e ∷ rest) (still_taken (root_extent store.root) e c.args.leaving.now rest store.space c.take_gap.new.space c.give.new.self takes given p));
    }

pub returns-in-Ok-clause-ok : goal.returns-in-Ok-clause-ok
returns-in-Ok-clause-ok g c = record {
  generation = ap (λ (r : Root). r.generation) c.in-Ok.ensures.ok;
  slot = ap (λ (r : Root). r.slot) c.in-Ok.ensures.ok;
  length = ap (λ (r : Root). r.length) c.in-Ok.ensures.ok ∙ c.in_ok-extent.ensures.taken.lowest.size ∙ c.len.ensures ∙ ap length c.in_ok-bytes.ensures;
}

pub returns-in-Ok-clause-leads : goal.returns-in-Ok-clause-leads
returns-in-Ok-clause-leads g c =
    let v = device g in
    let store = c.args.self.now in
    let m = view_manifest c.args.next.now in
    let e = c.in_ok-extent.extent in
    let bytes = c.as_slice.result.now in
    let takes = subst (λ n. TakesGap store.space c.take_gap.new.space n e) (c.len.ensures ∙ ap length (sym c.as_slice.ensures)) c.in_ok-extent.ensures.taken in
    let spelled = c.as_slice.ensures ∙ c.in_ok-bytes.ensures in
    let given = c.give.ensures.given in
    leads_on v c.args.disk.now store m c.args.leaving.now c.take_gap.new.space e bytes takes spelled c.replace.new.disk _ c.give.new.self given c.give_all.ensures.rest c.in-Ok.ensures.leads c.in-Ok.ensures.ok
    (c.give_all.ensures.limit ∙ sym given.limit ∙ takes.taken.limit) c.requires.whole

pub invariant_of-self-in-Err-Read : goal.invariant_of-self-in-Err-Read
invariant_of-self-in-Err-Read g c = record { slot = subst (λ (r : Root). r.slot < 2) (sym c.in-Err-Read.ensures.err) c.args.self.now.slot }

pub returns-in-Err-Read-clause-kept : goal.returns-in-Err-Read-clause-kept
returns-in-Err-Read-clause-kept g c =
    let store = c.args.self.now in
    let takes = c.in_ok-extent.ensures.taken in
    let some : 0 < c.in_ok-extent.extent.length = omega (arith, takes.lowest.size, manifest_filled (view_manifest c.args.next.now), ap length c.in_ok-bytes.ensures, c.len.ensures) in
    inl (record { root = c.in-Err-Read.ensures.err; space = c.give-in-Err-Read.ensures.undoes store.space some takes.taken; broken = refl })

pub returns-in-Err-Read-clause-leads : goal.returns-in-Err-Read-clause-leads
returns-in-Err-Read-clause-leads g c =
    let v = device g in
    let store = c.args.self.now in
    let m = view_manifest c.args.next.now in
    let e = c.in_ok-extent.extent in
    let bytes = c.as_slice.result.now in
    let takes = subst (λ n. TakesGap store.space c.take_gap.new.space n e) (c.len.ensures ∙ ap length (sym c.as_slice.ensures)) c.in_ok-extent.ensures.taken in
    let spelled = c.as_slice.ensures ∙ c.in_ok-bytes.ensures in
    let some : 0 < e.length = omega (arith, takes.lowest.size, manifest_filled m, ap length c.in_ok-bytes.ensures, ap length c.as_slice.ensures) in
    let rep = subst (λ x. Replaces (v.state c.args.disk.now) (v.state c.replace.new.disk) store.root e bytes (Err x)) c.in-Err-Read.field-0-is c.in-Err-Read.ensures.leads in
    leads_back v c.args.disk.now store m c.args.leaving.now c.take_gap.new.space e bytes takes spelled c.replace.new.disk _ rep
    (record { root = c.in-Err-Read.ensures.err; space = c.give-in-Err-Read.ensures.undoes store.space some takes.taken; broken = refl }) c.requires.whole

pub returns-clause-kept : goal.returns-clause-kept
returns-clause-kept g c =
    let store = c.args.self.now in
    let takes = c.in_ok-extent.ensures.taken in
    inr (refl, record { root = c.in-Err-Write.ensures.err; limit = takes.taken.limit; broken = refl; extent = c.in_ok-extent.extent; taken = grown store.space c.take_gap.new.space c.in_ok-extent.extent takes.taken })

pub returns-clause-leads : goal.returns-clause-leads
returns-clause-leads g c =
    let v = device g in
    let store = c.args.self.now in
    let m = view_manifest c.args.next.now in
    let e = c.in_ok-extent.extent in
    let bytes = c.as_slice.result.now in
    let takes = subst (λ n. TakesGap store.space c.take_gap.new.space n e) (c.len.ensures ∙ ap length (sym c.as_slice.ensures)) c.in_ok-extent.ensures.taken in
    let spelled = c.as_slice.ensures ∙ c.in_ok-bytes.ensures in
    let rep = subst (λ x. Replaces (v.state c.args.disk.now) (v.state c.replace.new.disk) store.root e bytes (Err x)) c.in-Err-Write.field-0-is c.in-Err-Write.ensures.leads in
    leads_off v c.args.disk.now store m c.args.leaving.now c.take_gap.new.space e bytes takes spelled c.replace.new.disk _ rep refl
