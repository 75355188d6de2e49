use Rattle.std.proofs.Common.{ap, arith, length}
use Rattle.lt_delta.specs.View.{view_index}
use Rattle.lt_delta.proofs.Indexes.{has_bytes}
use Rattle.lt_delta.proofs.store.seal.Goals as goal

pub write_aside-requires : goal.write_aside-requires
write_aside-requires g c = omega (arith, has_bytes (view_index c.args.index.now), ap length c.as_slice.ensures, ap length c.in_ok-bytes.ensures)
