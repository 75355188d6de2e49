-- The laws of rows, streams, snapshots, steps, faults and scans in one.
use Rattle.lt_machine.specs.Laws.{MachineLaws, SnapshotLaws}
use Rattle.lt_lemmas.proofs.PointLaws.{point_suffices}
use Rattle.lt_lemmas.proofs.RowLemmas.{reads_in_order}
use Rattle.lt_laws.proofs.SnapshotLaws.{answer_by_rows, snapshot_by_rows}
use Rattle.lt_laws.proofs.TakenLaws.{row_in_order, safe_row, safe_snapshot, source_keyed}
use Rattle.lt_session_laws.proofs.AllSteps.{step_keeps}
use Rattle.lt_laws.proofs.AnswerLaws.{scan_is_snapshot}
use Rattle.lt_session_laws.proofs.FaultLaws.{fault_keeps}
use Rattle.lt_laws.proofs.FrontStands.{front_laws, sound_grows}
use Rattle.lt_session_laws.proofs.GrowthLaws.{growth_keeps}
use Rattle.lt_session_laws.proofs.MemoryLaws.{held_scans}
use Rattle.lt_laws.proofs.SoundLaws.{opening_is_good}
use Rattle.lt_session_laws.proofs.StopLaws.{pump_laws}
use Rattle.lt_theorems.proofs.ReadGrowth.{reads_wider}

pub snapshot_laws : SnapshotLaws
snapshot_laws = record {
  keyed = source_keyed;
  by_rows = snapshot_by_rows;
  answers = answer_by_rows;
  safe_row = safe_row;
  safe_snapshot = safe_snapshot;
  wider = reads_wider;
  in_order = row_in_order;
}

pub machine_laws : MachineLaws
machine_laws = record {
  rows = reads_in_order;
  point = point_suffices;
  front = front_laws;
  snapshots = snapshot_laws;
  pumps = pump_laws;
  step = step_keeps;
  faults = fault_keeps;
  opening = opening_is_good;
  growth = growth_keeps;
  images = sound_grows;
  scan = scan_is_snapshot;
  held = held_scans;
}
