use Rattle.std.proofs.Common.{List, ap, arith, eq-eqb, ne_eqb, refl, ◌+◌, ◌-◌, ◌∙◌, ◌≡◌}
use Rattle.std.specs.Prelude.{map}
use Rattle.std.proofs.lemmas.List.{length-map}
use Rattle.lt_tables.specs.Pump.{part_of}
use Rattle.lt_machine.specs.Machine.{refused, split_parts}
use Rattle.lt_tables.specs.Query.{do_split}
use Rattle.lt_storage.specs.Store.{part_ranges}
use Rattle.lt_parts.specs.Parts.{ranges}
use Rattle.lt_pending.specs.Held.{held_in}
use Rattle.lt_pending.specs.declared.changes.Changes.{Changes}
use Rattle.lt_pred.specs.View.{view_literals}
use Rattle.lt_pump.specs.Pumps.{streams_of}
use Rattle.lt_steps.specs.Memory.{split_memory}
use Rattle.lt_engine.specs.Splitting.{IsSplitKey, named_key_fault, parted_at, parts_fault}
use Rattle.lt_engine.specs.State.{memory_of, part_of_entry, state_of}
use Rattle.lt_engine.specs.Steps.{Refuses, Stays}
use Rattle.lt_engine.proofs.Results.{err_is, refuses_to}
use Rattle.lt_engine.proofs.SchemaLaws.{stays_itself}
use Rattle.lt_engine.proofs.SplitLaws.{behind_parted, does_split, memory_of_key, memory_split, number_is, parts_split, split_bad_key, split_is, split_worn, state_split, still_as_many}
use Rattle.lt_engine.proofs.replica.Replica.split.Goals as goal

pub returns-then-self-clause-refused : goal.returns-then-self-clause-refused
returns-then-self-clause-refused c =
    let s = c.args.self.now in
    ((tt, split_worn s.catalogue s.generation s.map (streams_of s.pump) (memory_of s) c.args.table.now (view_literals c.args.key.now) (eq-eqb s.generation 18446744073709551615 c.if-self.true)), stays_itself s)

pub returns-in_err-key-clause-refused : goal.returns-in_err-key-clause-refused
returns-in_err-key-clause-refused c =
    let s = c.args.self.now in
    let name = c.args.table.now in
    let ls = view_literals c.args.key.now in
    err_is c.from_residual.result c.in_err-key.field-0.0 (λ e. Refuses (refused (state_of s) (do_split name ls)) e × Stays s s) c.from_residual.ensures.1 (
      refuses_to (named_key_fault s.catalogue name ls) (refused (state_of s) (do_split name ls)) (λ r e. split_bad_key s.catalogue s.generation s.map (streams_of s.pump) (memory_of s) name ls (ne_eqb s.generation 18446744073709551615 c.if-self.false) r e)
          c.in_err-key.field-0.0 c.in_err-key.ensures.refused,
      stays_itself s,
    )

pub returns-in_err-map-clause-refused : goal.returns-in_err-map-clause-refused
returns-in_err-map-clause-refused c =
    let s = c.args.self.now in
    let name = c.args.table.now in
    let ls = view_literals c.args.key.now in
    let key = c.in_ok-key.key in
    err_is c.from_residual-in_err-map.result c.in_err-map.field-0.0 (λ e. Refuses (refused (state_of s) (do_split name ls)) e × Stays s s) c.from_residual-in_err-map.ensures.1 (
      refuses_to (parts_fault s.map key) (refused (state_of s) (do_split name ls)) (λ r e. split_is s.catalogue s.generation s.map (streams_of s.pump) (memory_of s) name ls key (ne_eqb s.generation 18446744073709551615 c.if-self.false) c.in_ok-key.ensures.key ∙ e)
          c.in_err-map.field-0.0 c.in_err-map.ensures.refused,
      stays_itself s,
    )

pub invariant_of-self-2 : goal.invariant_of-self-2
invariant_of-self-2 c =
    let s = c.args.self.now in
    let key = c.in_ok-key.key in
    let upper = c.in_ok-map.upper in
    let held : map held_in c.install_halves.new.parts.items ≡ parted_at (upper - 1) key (memory_of s) = c.install_halves.ensures ∙ ap (λ (xs : List Changes). parted_at (upper - 1) key (map held_in xs)) c.upper_half.ensures.held in
    record {
      as_many = still_as_many s.map c.in_ok-map.map c.settle.new.map s.parts.items c.install_halves.new.parts.items upper key s.as_many c.in_ok-map.ensures.split c.settle.ensures.parts held;
      behind = behind_parted (streams_of s.pump) (upper - 1) key (memory_of s) (map held_in c.install_halves.new.parts.items) held s.behind;
      settled = c.settle.ensures.settled;
    }

pub returns-clause-done : goal.returns-clause-done
returns-clause-done c =
    let s = c.args.self.now in
    let name = c.args.table.now in
    let ls = view_literals c.args.key.now in
    let es = s.map in
    let ss = streams_of s.pump in
    let now = c.settle.new.map in
    let mem = memory_of s in
    let after = map held_in c.install_halves.new.parts.items in
    let key = c.in_ok-key.key in
    let upper = c.in_ok-map.upper in
    let held : after ≡ parted_at (upper - 1) key mem = c.install_halves.ensures ∙ ap (λ (xs : List Changes). parted_at (upper - 1) key (map held_in xs)) c.upper_half.ensures.held in
    let k : IsSplitKey s.catalogue name ls key = c.in_ok-key.ensures.key in
    let part : upper ≡ part_of (ranges es) key + 1 = c.in_ok-map.ensures.part in
    let place : upper - 1 ≡ part_of (ranges es) key = omega (arith, part) in
    let parts : map part_of_entry now ≡ split_parts key (map part_of_entry es) (part_ranges (map part_of_entry es)) = c.settle.ensures.parts ∙ parts_split es c.in_ok-map.map key upper c.in_ok-map.ensures.split part in
    let memory : after ≡ split_memory key mem (part_ranges (map part_of_entry es)) = memory_split es key mem after (upper - 1) (length-map s.parts.items held_in ∙ s.as_many) place held in
    record {
      table = k.table;
      named = k.named;
      done = record {
        free = split_is s.catalogue s.generation es ss mem name ls key (ne_eqb s.generation 18446744073709551615 c.if-self.false) k ∙ c.in_ok-map.ensures.free;
        does = λ f source. does_split f source s.catalogue (state_of s) _ name ls key upper refl k (number_is es key upper part) (state_split s.catalogue s.generation es now ss mem after key parts memory);
        memory = memory_of_key s.catalogue name ls key mem after (part_ranges (map part_of_entry es)) k memory;
      };
    }
