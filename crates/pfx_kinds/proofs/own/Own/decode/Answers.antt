use Rattle.std.proofs.Common.{◌≡◌, false, sym, ◌∙◌, arith}
use Rattle.std.specs.Prelude.{drop, take, slice_index}
use Rattle.std.specs.Str.{bytes_eq}
use Rattle.byteorder.specs.Endian.{little_number}
use Rattle.byteorder.specs.Numbers.{little_from-take}
use Rattle.pfx_jobs.proofs.Codings.{bytes_eq-true}
use Rattle.pfx_jobs.proofs.FromLaws.{decoded-spelling}
use Rattle.pfx_kinds.specs.Owns.{own_bytes, own_fits, own_found}
use Rattle.pfx_kinds.specs.OwnKind.{own_kind, own_laws, own_unfit, own_other}
use Rattle.pfx_kinds.proofs.own.Own.decode.Goals as goal

pub returns-then-eq : goal.returns-then-eq
returns-then-eq c =
    let same = bytes_eq-true c.args.bytes.now c.encode.new.bytes (sym c.eq.ensures ∙ c.if-eq.true) in
    decoded-spelling own_kind own_laws _ c.args.bytes.now (sym c.encode.ensures ∙ sym same)

pub returns-then-not-is_own : goal.returns-then-not-is_own
returns-then-not-is_own c =
    let bytes = c.args.bytes.now in
    let answered : c.read_u64-answered.result ≡ little_number 8 (drop 5 bytes) = c.read_u64-answered.ensures ∙ little_from-take 0 8 123 (drop 5 bytes) (omega arith) in
    let since : c.read_uint-since.result ≡ little_number 5 (drop 120 bytes) = c.read_uint-since.ensures ∙ little_from-take 0 5 8 (drop 120 bytes) (omega arith) in
    let unfit : own_fits (little_number 8 (drop 5 bytes)) (little_number 5 (drop 120 bytes)) (slice_index bytes 13) (take 106 (drop 14 bytes)) ≡ false =
    rw (c.copy_from_slice.ensures.after, answered, since) at (sym c.is_own.ensures ∙ c.if-not-is_own.true) in
    own_unfit bytes unfit

pub returns-else-eq : goal.returns-else-eq
returns-else-eq c =
    let bytes = c.args.bytes.now in
    let answered : c.read_u64-answered.result ≡ little_number 8 (drop 5 bytes) = c.read_u64-answered.ensures ∙ little_from-take 0 8 123 (drop 5 bytes) (omega arith) in
    let since : c.read_uint-since.result ≡ little_number 5 (drop 120 bytes) = c.read_uint-since.ensures ∙ little_from-take 0 5 8 (drop 120 bytes) (omega arith) in
    let other : bytes_eq bytes (own_bytes (own_found bytes)) ≡ false =
    rw (c.encode.ensures, c.copy_from_slice.ensures.after, answered, since) at (sym c.eq.ensures ∙ c.if-eq.false) in
    own_other bytes other
