use Rattle.std.proofs.Common.{◌≡◌, sym, ◌∙◌, ap, ap₂, drop}
use Rattle.std.proofs.lemmas.List.{take_rest}
use Rattle.byteorder.specs.Endian.{little_number}
use Rattle.pfx_weights.specs.Bytes.{weights_of}
use Rattle.pfx_weights.specs.Tests.{set_of}
use Rattle.pfx_store_header.specs.Headers.{real_at, segment_at, workers_at, tasks_at, sized}
use Rattle.pfx_store_header.proofs.Stages.{tasks_short, tasks_long, reads_same}
use Rattle.pfx_store_header.proofs.reading.read_tasks.Goals as goal

pub returns-then-bytes-real : goal.returns-then-bytes-real
returns-then-bytes-real c = tasks_short c.args.bytes.now c.from-real.result (c.from-real.ensures ∙ c.requires.real) c.if-bytes-real.true

pub returns-in-Ok-set_of : goal.returns-in-Ok-set_of
returns-in-Ok-set_of c =
    let bytes = c.args.bytes.now in
    let real : c.from-real.result ≡ real_at bytes = c.from-real.ensures ∙ c.requires.real in
    let segment : c.read_u32-segment.result ≡ segment_at bytes = c.read_u32-segment.ensures ∙ ap (little_number 4) (take_rest bytes 13) in
    let workers : c.from.result ≡ workers_at bytes = c.from.ensures ∙ c.requires.workers in
    let tasks : c.deref.result.now ≡ tasks_at bytes = c.deref.ensures.value ∙ (c.in-Ok.ensures ∙ ap (λ n. weights_of n (drop 17 bytes)) real) in
    let set : c.in-Ok-set_of.set ≡ set_of (workers_at bytes) (tasks_at bytes) = c.in-Ok-set_of.ensures ∙ ap₂ set_of workers tasks in
    reads_same _ _ c.sized.result (tasks_long bytes c.from-real.result real c.if-bytes-real.false ∙ sym (ap₂ sized segment set)) c.sized.ensures
