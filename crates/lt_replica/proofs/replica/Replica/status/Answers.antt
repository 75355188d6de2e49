use Rattle.lt_replica.specs.Numbers.{numbers_of}
use Rattle.std.proofs.Common.{ap₂, refl}
use Rattle.std.specs.Prelude.{None}
use Rattle.lt_machine.specs.Machine.{replies}
use Rattle.lt_words.specs.Reply.{status_told}
use Rattle.lt_pump.specs.Pumps.{streams_of}
use Rattle.lt_replica.specs.State.{memory_of}
use Rattle.lt_replica.proofs.Refusals.{status_free}
use Rattle.lt_replica.proofs.replica.Replica.status.Goals as goal

pub returns-clause-done : goal.returns-clause-done
returns-clause-done c =
    let s = c.args.self.now in
    record {
      free = status_free s.catalogue (numbers_of s.store s.next_id) s.map (streams_of s.pump) (memory_of s);
      does = λ f source. (ap₂ (λ parts streams. replies (status_told 0 parts streams None)) c.in_ok-part_lines.ensures c.in_ok-stream_lines.ensures, refl);
      memory = refl;
    }
