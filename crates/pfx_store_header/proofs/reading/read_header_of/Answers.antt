use Rattle.std.proofs.Common.{◌≡◌, ◌∙◌, ap}
use Rattle.std.proofs.lemmas.List.{take_rest}
use Rattle.byteorder.specs.Endian.{little_number}
use Rattle.pfx_store_header.specs.Headers.{real_at}
use Rattle.pfx_store_header.proofs.Stages.{no_store, other_version, this_version, counts_in, counts_out, reads_same}
use Rattle.pfx_store_header.proofs.reading.read_header_of.Goals as goal

pub returns-then-not-is_store : goal.returns-then-not-is_store
returns-then-not-is_store c = no_store c.args.version c.args.bytes.now c.is_store.result c.is_store.ensures c.if-not-is_store.true

pub returns-then-found-version : goal.returns-then-found-version
returns-then-found-version c = other_version c.args.version c.args.bytes.now c.is_store.result c.is_store.ensures c.if-not-is_store.false c.if-found-version.true

pub returns-then-are_counts : goal.returns-then-are_counts
returns-then-are_counts c =
    let bytes = c.args.bytes.now in
    let real : c.read_u16-real.result ≡ real_at bytes = c.read_u16-real.ensures ∙ ap (little_number 2) (take_rest bytes 11) in
    reads_same _ _ c.read_tasks.result
    (this_version c.args.version bytes c.is_store.result c.is_store.ensures c.if-not-is_store.false c.if-found-version.false
    ∙ counts_in bytes c.read_u16-real.result c.are_counts.result real c.are_counts.ensures c.if-are_counts.true) c.read_tasks.ensures

pub returns-else-are_counts : goal.returns-else-are_counts
returns-else-are_counts c =
    let bytes = c.args.bytes.now in
    let real : c.read_u16-real.result ≡ real_at bytes = c.read_u16-real.ensures ∙ ap (little_number 2) (take_rest bytes 11) in
    this_version c.args.version bytes c.is_store.result c.is_store.ensures c.if-not-is_store.false c.if-found-version.false
    ∙ counts_out bytes c.read_u16-real.result c.are_counts.result real c.are_counts.ensures c.if-are_counts.false
