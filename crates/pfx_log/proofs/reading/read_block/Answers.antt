use Rattle.std.proofs.Common.{rules, ◌≡◌, ◌≢◌, ◌≤◌, ◌<◌, ◌+◌, ◌^◌, length, take, drop, refl, sym, ap, subst, arith, ◌∙◌}
use Rattle.pfx_log.specs.Logs.{AreBytes, block_of, head_of}
use Rattle.pfx_log.proofs.Handed.{block_handed}
use Rattle.pfx_log.proofs.Looks.{failed_after, keeps_after, looks_then}
use Rattle.pfx_log.proofs.Next.{ends, goes_on, other_head}
use Rattle.pfx_log.proofs.reading.read_block.Goals as goal

pub returns-in_default-clause-read : goal.returns-in_default-clause-read
returns-in_default-clause-read g c = record {
  looks = c.read_front.ensures.read.looks;
  device = search rules;
  exact = λ bytes kept log begins.
      let shut = rw c.in_default.is at (c.in_ok-n.ensures.read.exact bytes kept) in
      ends bytes log c.args.place begins shut.0 shut.1;
}

pub returns-in_err-frames-clause-read : goal.returns-in_err-frames-clause-read
returns-in_err-frames-clause-read g c =
    let view = g.D.Disk.view in
    let a = view c.args.disk.now in
    let b = view c.read_front.new.disk in
    let d = view c.read_bytes.new.disk in
    let first = c.read_front.ensures.read.looks in
    block_handed a d c.in_err-frames.field-0.0 (looks_then a b d first c.read_bytes.ensures.read.looks)
    (λ is. failed_after a b d first (c.in_err-frames.ensures.read.device is))
    (λ bytes kept. c.in_err-frames.ensures.read.exact bytes (keeps_after bytes a b first kept))
    c.args.place c.from_residual-in_err-frames.result c.from_residual-in_err-frames.ensures.1

pub returns-in_err-read_head-clause-read : goal.returns-in_err-read_head-clause-read
returns-in_err-read_head-clause-read g c =
    let view = g.D.Disk.view in
    let a = view c.args.disk.now in
    let b = view c.read_front.new.disk in
    let d = view c.read_bytes.new.disk in
    let e = view c.read_head.new.disk in
    let looks = looks_then a b d c.read_front.ensures.read.looks c.read_bytes.ensures.read.looks in
    block_handed a e c.in_err-read_head.field-0.0 (looks_then a d e looks c.read_head.ensures.looks)
    (λ is. failed_after a d e looks (c.in_err-read_head.ensures.device is))
    (λ bytes kept. c.in_err-read_head.ensures.exact bytes (keeps_after bytes a d looks kept))
    c.args.place c.from_residual-in_err-read_head.result c.from_residual-in_err-read_head.ensures.1

pub returns-then-ne-clause-read : goal.returns-then-ne-clause-read
returns-then-ne-clause-read g c =
    let view = g.D.Disk.view in
    let a = view c.args.disk.now in
    let b = view c.read_front.new.disk in
    let d = view c.read_bytes.new.disk in
    let e = view c.read_head.new.disk in
    let looks = looks_then a b d c.read_front.ensures.read.looks c.read_bytes.ensures.read.looks in
    record {
      looks = looks_then a d e looks c.read_head.ensures.looks;
      device = search rules;
      exact = λ bytes kept log begins.
          let place = c.args.place in
          let n = c.in-Some.n in
          let long : length bytes ≡ c.args.len = ap length (sym kept.contents) ∙ c.requires.len kept.honest in
          let next = rw c.in-Some.is at c.in_ok-n.ensures.next in
          let front = rw c.in-Some.is at (c.in_ok-n.ensures.read.exact bytes kept) in
          let fits : place.at + 57 + n ≤ length bytes = omega (arith, next.fits, long) in
          let frames = c.in_ok-frames.frames.items in
          let is : frames ≡ take n (drop (place.at + 25) bytes) = c.in_ok-frames.ensures.read.exact bytes (keeps_after bytes a b c.read_front.ensures.read.looks kept) in
          let is_head : c.in_ok-read_head.field-0 ≡ take 32 (drop (place.at + 25 + n) bytes) = c.in_ok-read_head.ensures.exact bytes (keeps_after bytes a d looks kept) in
          let small : c.in-Some.first < 2 ^ 64 = search rules in
          let small_last : c.in-Some.last < 2 ^ 64 = search rules in
          let computed : c.head_of-head.result ≡ head_of place.head (block_of c.in-Some.first c.in-Some.last frames) = c.head_of-head.ensures.value ∙ ap (λ f. head_of place.head (block_of c.in-Some.first c.in-Some.last f)) c.deref.ensures.value in
          let differ : c.in_ok-read_head.field-0 ≢ c.head_of-head.result = search rules in
          other_head bytes log place begins n c.in-Some.first c.in-Some.last fits next.most front frames is small small_last c.in_ok-read_head.field-0 is_head
          (λ same. differ (same ∙ sym computed));
    }

pub returns-clause-read : goal.returns-clause-read
returns-clause-read g c =
    let view = g.D.Disk.view in
    let a = view c.args.disk.now in
    let b = view c.read_front.new.disk in
    let d = view c.read_bytes.new.disk in
    let e = view c.read_head.new.disk in
    let looks = looks_then a b d c.read_front.ensures.read.looks c.read_bytes.ensures.read.looks in
    record {
      looks = looks_then a d e looks c.read_head.ensures.looks;
      device = search rules;
      exact = λ bytes kept log begins.
          let place = c.args.place in
          let n = c.in-Some.n in
          let long : length bytes ≡ c.args.len = ap length (sym kept.contents) ∙ c.requires.len kept.honest in
          let next = rw c.in-Some.is at c.in_ok-n.ensures.next in
          let front = rw c.in-Some.is at (c.in_ok-n.ensures.read.exact bytes kept) in
          let fits : place.at + 57 + n ≤ length bytes = omega (arith, next.fits, long) in
          let frames = c.in_ok-frames.frames.items in
          let is : frames ≡ take n (drop (place.at + 25) bytes) = c.in_ok-frames.ensures.read.exact bytes (keeps_after bytes a b c.read_front.ensures.read.looks kept) in
          let is_head : c.in_ok-read_head.field-0 ≡ take 32 (drop (place.at + 25 + n) bytes) = c.in_ok-read_head.ensures.exact bytes (keeps_after bytes a d looks kept) in
          let small : c.in-Some.first < 2 ^ 64 = search rules in
          let small_last : c.in-Some.last < 2 ^ 64 = search rules in
          let computed : c.head_of-head.result ≡ head_of place.head (block_of c.in-Some.first c.in-Some.last frames) = c.head_of-head.ensures.value ∙ ap (λ f. head_of place.head (block_of c.in-Some.first c.in-Some.last f)) c.deref.ensures.value in
          let same : c.in_ok-read_head.field-0 ≡ c.head_of-head.result = search rules in
          let small_frames : AreBytes frames = subst AreBytes c.deref.ensures.value c.head_of-head.ensures.bytes in
          goes_on bytes log place begins n c.in-Some.first c.in-Some.last fits next.most front frames is small small_last c.in_ok-read_head.field-0 is_head
          small_frames next.next next.some (same ∙ computed) _ refl refl (sym same);
    }
