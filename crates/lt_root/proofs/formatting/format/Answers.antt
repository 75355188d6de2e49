use Rattle.std.proofs.Common.{List, Option, Some, [], ap, arith, length, refl, subst, sym, ℕ, ◌++◌, ◌∙◌, ◌∷◌, ◌≡◌}
use Rattle.std.specs.Prelude.{IfSome}
use Rattle.lt_terms.specs.declared.Root.{Root}
use Rattle.lt_world.specs.Disk.{Only, with_bytes, zeros}
use Rattle.lt_world.specs.Slots.{HasRoot}
use Rattle.lt_disk.proofs.Moments.{Device, changed, changes_on, told_at, where_told}
use Rattle.lt_root.specs.Roots.{body_of, first_root, first_slots}
use Rattle.lt_root.proofs.SlotLaws.{lawful_root}
use Rattle.lt_root.proofs.Tears.{first_made, laid}
use Rattle.lt_root.proofs.formatting.format.Given as given
use Rattle.lt_root.proofs.formatting.format.Goals as goal

abbrev device : (g : given.Over) → Device g.row.D.Denot
device g = record {
  state = g.D.Disk.state;
  counts_now = g.met.D.Disk.counts_now;
  only_now = g.met.D.Disk.only_now;
  reads_an_image = g.met.D.Disk.reads_an_image;
}

size_of : (slots : List ℕ) (n : Root) → slots ≡ body_of n ++ zeros 513 → length slots ≡ 1024
size_of slots n is = ap length is

-- what reads once both were written
reads_first : {D : Type 0} (told : D → Option (List ℕ)) (old mid new : D) (a slots : List ℕ) (place : ℕ) (n : Root) → told old ≡ Some a → slots ≡ body_of n ++ zeros 513 → place ≡ 511 → IfSome (told old) (λ image. told mid ≡ Some (with_bytes image 0 slots))
    → IfSome (told mid) (λ image. told new ≡ Some (with_bytes image place (165 ∷ []))) → told new ≡ Some (with_bytes a 0 (body_of n ++ (165 ∷ zeros 512)))
reads_first told old mid new a slots place n seen is there first second =
    let between : told mid ≡ Some (with_bytes a 0 slots) = told_at (told old) a (λ image. told mid ≡ Some (with_bytes image 0 slots)) seen first in
    told_at (told mid) (with_bytes a 0 slots) (λ image. told new ≡ Some (with_bytes image place (165 ∷ []))) between second ∙ ap (λ p. Some (with_bytes (with_bytes a 0 slots) p (165 ∷ []))) there ∙ ap Some (laid a slots n is)

pub returns-in_err-put-2-clause-others : goal.returns-in_err-put-2-clause-others
returns-in_err-put-2-clause-others g c =
    let v = device g in
    let old = c.args.disk.now in
    let size = size_of c.closed_slots.result (first_root c.args.place c.args.length) c.closed_slots.ensures in
    let first = changed v 0 1024 0 (length c.closed_slots.result) old c.put.new.disk (omega arith) (omega (arith, size)) c.put.ensures.images c.put.ensures.reads in
    let second = changes_on v 0 1024 old c.put.new.disk c.put-2.new.disk first (changed v 0 1024 c.place_of_gate.result 1 c.put.new.disk c.put-2.new.disk (omega arith) (omega (arith, c.place_of_gate.ensures)) c.put-2.ensures.images c.put-2.ensures.reads) in
    second.reads

pub returns-clause-others : goal.returns-clause-others
returns-clause-others g c =
    let v = device g in
    let old = c.args.disk.now in
    let size = size_of c.closed_slots.result (first_root c.args.place c.args.length) c.closed_slots.ensures in
    let first = changed v 0 1024 0 (length c.closed_slots.result) old c.put.new.disk (omega arith) (omega (arith, size)) c.put.ensures.images c.put.ensures.reads in
    let second = changes_on v 0 1024 old c.put.new.disk c.put-2.new.disk first (changed v 0 1024 c.place_of_gate.result 1 c.put.new.disk c.put-2.new.disk (omega arith) (omega (arith, c.place_of_gate.ensures)) c.put-2.ensures.images c.put-2.ensures.reads) in
    second.reads

pub returns-in_err-put-2-clause-images : goal.returns-in_err-put-2-clause-images
returns-in_err-put-2-clause-images g c =
    let v = device g in
    let old = c.args.disk.now in
    let size = size_of c.closed_slots.result (first_root c.args.place c.args.length) c.closed_slots.ensures in
    let first = changed v 0 1024 0 (length c.closed_slots.result) old c.put.new.disk (omega arith) (omega (arith, size)) c.put.ensures.images c.put.ensures.reads in
    let second = changes_on v 0 1024 old c.put.new.disk c.put-2.new.disk first (changed v 0 1024 c.place_of_gate.result 1 c.put.new.disk c.put-2.new.disk (omega arith) (omega (arith, c.place_of_gate.ensures)) c.put-2.ensures.images c.put-2.ensures.reads) in
    second.images

pub returns-clause-images : goal.returns-clause-images
returns-clause-images g c =
    let v = device g in
    let old = c.args.disk.now in
    let size = size_of c.closed_slots.result (first_root c.args.place c.args.length) c.closed_slots.ensures in
    let first = changed v 0 1024 0 (length c.closed_slots.result) old c.put.new.disk (omega arith) (omega (arith, size)) c.put.ensures.images c.put.ensures.reads in
    let second = changes_on v 0 1024 old c.put.new.disk c.put-2.new.disk first (changed v 0 1024 c.place_of_gate.result 1 c.put.new.disk c.put-2.new.disk (omega arith) (omega (arith, c.place_of_gate.ensures)) c.put-2.ensures.images c.put-2.ensures.reads) in
    second.images

pub returns-clause-bytes : goal.returns-clause-bytes
returns-clause-bytes g c =
    let told = λ (d : g.row.D.Denot). (g.D.Disk.state d).told in
    where_told (told c.args.disk.now) _ (λ a seen.
    reads_first told c.args.disk.now c.put.new.disk c.put-2.new.disk a c.closed_slots.result c.place_of_gate.result (first_root c.args.place c.args.length) seen c.closed_slots.ensures c.place_of_gate.ensures c.in_ok-put.ensures.bytes c.in_ok-put-2.ensures.bytes)

pub returns-clause-made : goal.returns-clause-made
returns-clause-made g c =
    let told = λ (d : g.row.D.Denot). (g.D.Disk.state d).told in
    let n = first_root c.args.place c.args.length in
    where_told (told c.args.disk.now) _ (λ a seen behind some image left.
    let lawful = lawful_root 1 c.args.place c.args.length (omega arith) (omega arith) behind (omega (arith, c.ranges.place.fits)) some (omega (arith, c.ranges.length.fits)) in
    let slots = first_slots c.args.place c.args.length in
    let reads = reads_first told c.args.disk.now c.put.new.disk c.put-2.new.disk a c.closed_slots.result c.place_of_gate.result n seen c.closed_slots.ensures c.place_of_gate.ensures c.in_ok-put.ensures.bytes c.in_ok-put-2.ensures.bytes in
    let only = told_at (told c.put-2.new.disk) (with_bytes a 0 slots) (λ b. Only b (g.D.Disk.state c.put-2.new.disk).leaves) reads c.in_ok-put-2.ensures.stable in
    subst (HasRoot n) (sym (only image left)) (first_made a n refl lawful))
