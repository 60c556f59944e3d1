use Rattle.std.proofs.Common.{◌∙◌, sym, ap, IsTrue, rules}
use Rattle.std.specs.List.{concat}
use Rattle.pfx_segment.specs.Reading.{views}
use Rattle.pfx_replay_audit.proofs.Splits.{each, found_split, stands}
use Rattle.pfx_replay_audit.proofs.framing.frames_of.Goals as goal

pub returns-in_default : goal.returns-in_default
returns-in_default c frames split = (rw c.in_default.is at c.in_ok-frames.ensures) frames (stands c.args.bytes.now frames split)

pub returns-then-are_bytes : goal.returns-then-are_bytes
returns-then-are_bytes c =
    let bytes = c.args.bytes.now in
    let frames = views c.in-Some.frames.items in
    let found = rw c.in-Some.is at c.in_ok-frames.ensures in
    let yes : IsTrue c.are_bytes.result = search rules in
    let all = c.in_ok-all.ensures ∙ ap (λ l. concat (views l)) c.deref.ensures.value in
    record { whole = c.are_bytes.ensures.0 yes ∙ c.deref-2.ensures.value ∙ all; each = each 0 _ frames _ found }

pub returns-else-are_bytes : goal.returns-else-are_bytes
returns-else-are_bytes c others split =
    let bytes = c.args.bytes.now in
    let frames = views c.in-Some.frames.items in
    let found = rw c.in-Some.is at c.in_ok-frames.ensures in
    let all = c.in_ok-all.ensures ∙ ap (λ l. concat (views l)) c.deref.ensures.value in
    let same = found_split bytes frames others found split in
    let yes : IsTrue c.are_bytes.result = c.are_bytes.ensures.1 (same ∙ sym (c.deref-2.ensures.value ∙ all)) in
    search rules
