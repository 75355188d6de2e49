use Rattle.std.proofs.lemmas.Result.{err_from_is_err_and}
use Rattle.lt_io.proofs.Streams.{with_more, with_same}
use Rattle.lt_io.proofs.mem_feed.MemFeed.append.Goals as goal

pub returns-in_err-extend_from_slice-clause-err : goal.returns-in_err-extend_from_slice-clause-err
returns-in_err-extend_from_slice-clause-err c =
    let error = err_from_is_err_and c.from_residual.result c.from_residual.ensures.1 in
    rw error.1 (with_same c.args.self.now.streams.items c.args.stream c.index_mut.result.now c.extend_from_slice.new.self c.index_mut.ensures.value (c.in_err-extend_from_slice.ensures.items))

pub returns-clause-ok : goal.returns-clause-ok
returns-clause-ok c = with_more c.args.self.now.streams.items c.args.stream c.index_mut.result.now c.extend_from_slice.new.self c.args.bytes.now c.requires c.index_mut.ensures.value c.in_ok-extend_from_slice.ensures.items
