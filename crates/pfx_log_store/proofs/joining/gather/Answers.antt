use Rattle.std.proofs.Common.{◌≡◌, ◌≢◌, ◌≤◌, ◌<◌, ◌+◌, ℕ, List, length, get_or, take, drop, subst, sym, ap, ◌∙◌, rules, arith, Some, None}
use Rattle.pfx_disk.specs.declared.gates.TheConstants.{GATE_OPEN}
use Rattle.pfx_store_format.specs.Format.{format}
use Rattle.pfx_store_format.proofs.Nexts.{below}
use Rattle.pfx_store_recover.proofs.Looking.{looks_none, looks_read, looks_then}
use Rattle.pfx_segment.specs.Frames.{frame_len}
use Rattle.pfx_segment.specs.Reading.{IsDamage}
use Rattle.pfx_log_store.specs.Joining.{gathered_more, gathering}
use Rattle.pfx_log_store.proofs.Gathering.{Remains, frame_fits, gathered_all, goes_to, handed, has_number, number_more, same_bytes, undamaged}
use Rattle.pfx_log_store.proofs.joining.gather.Goals as goal

-- the frame that was read, as the bytes have it
module _ (gate end : ℕ) where
  abbrev HasFrame : List ℕ → List ℕ → Type 0
  HasFrame frame bytes = (get_or bytes gate 0 ≡ GATE_OPEN) × (gate + frame_len gate bytes < end) × (frame ≡ take (frame_len gate bytes) (drop gate bytes))

pub walk-init : goal.walk-init
walk-init g c = record {
  order = c.requires.order;
  number = c.requires.number;
  looks = looks_none _;
  remains = λ honest frames next are is. (frames, are, is);
}

pub returns-in_err-frame-clause-exact : goal.returns-in_err-frame-clause-exact
returns-in_err-frame-clause-exact g c honest frames next are is =
    let K = format g.J.Job.kind in
    let start = g.D.Disk.view c.args.disk.now in
    let inv = c.walk.invariant in
    let now = same_bytes start (g.D.Disk.view c.walk.disk) inv.looks honest in
    let damage = subst (λ (l : List ℕ). IsDamage c.in_err-frame.field-0.0 (λ at. (at ≡ c.walk.gate) × (get_or l c.walk.gate 0 ≡ GATE_OPEN) × (c.args.end ≤ c.walk.gate + frame_len c.walk.gate l))) now.1 (c.in_err-frame.ensures.damaged now.0) in
    handed _ c.from_residual.result _ c.from_residual.ensures.1
    (undamaged c.in_err-frame.field-0.0 _ damage (λ at there. frame_fits K c.args.last c.args.end start.contents next c.walk.gate (gathering c.walk.so_far) (inv.remains honest frames next are is) there.1 there.2))

pub returns-in_default-clause-exact : goal.returns-in_default-clause-exact
returns-in_default-clause-exact g c honest frames next are is =
    let start = g.D.Disk.view c.args.disk.now in
    let inv = c.walk.invariant in
    let now = same_bytes start (g.D.Disk.view c.walk.disk) inv.looks honest in
    let shut_now = rw c.in_default.is at (c.in_ok-frame.ensures.shut now.0) in
    let shut = subst (λ (l : List ℕ). get_or l c.walk.gate 0 ≢ GATE_OPEN) now.1 shut_now in
    gathered_all (format g.J.Job.kind) c.args.last c.args.end start.contents next c.walk.gate (gathering c.walk.so_far) (inv.remains honest frames next are is) shut

pub returns-in_default-number_after-clause-exact : goal.returns-in_default-number_after-clause-exact
returns-in_default-number_after-clause-exact g c honest frames next are is =
    let K = format g.J.Job.kind in
    let start = g.D.Disk.view c.args.disk.now in
    let inv = c.walk.invariant in
    let now = same_bytes start (g.D.Disk.view c.walk.disk) inv.looks honest in
    let found_now = rw c.in-Some.is at (c.in_ok-frame.ensures.found now.0) in
    let found = subst (λ (l : List ℕ). HasFrame c.walk.gate c.args.end c.in-Some.frame.items l) now.1 found_now in
    let inside = c.requires.inside honest in
    let none : K.after c.walk.so_far.number c.in-Some.frame.items ≡ None = ap (λ (l : List ℕ). K.after c.walk.so_far.number l) (sym c.deref.ensures.value) ∙ sym c.number_after.ensures ∙ c.in_default-number_after.is in
    has_number K c.args.last c.args.end start.contents next inside c.walk.gate (gathering c.walk.so_far) c.in-Some.frame.items found.0 found.2 (inv.remains honest frames next are is) none

pub walk-preserved : goal.walk-preserved
walk-preserved g c =
    let K = format g.J.Job.kind in
    let start = g.D.Disk.view c.args.disk.now in
    let inv = c.walk.invariant in
    let size_is = rw c.in-Some.is at c.in_ok-frame.ensures.size in
    let len : c.len-gate.result ≡ length c.in-Some.frame.items = search rules in
    let after : K.after c.walk.so_far.number c.in-Some.frame.items ≡ Some c.in-Some-number_after.next = ap (λ (l : List ℕ). K.after c.walk.so_far.number l) (sym c.deref.ensures.value) ∙ sym c.number_after.ensures ∙ c.in-Some-number_after.is in
    let more : gathering c.in_ok-so_far.so_far ≡ gathered_more c.args.last c.in-Some-number_after.next c.in-Some.frame.items (gathering c.walk.so_far) =
    c.in_ok-so_far.ensures ∙ ap (λ (l : List ℕ). gathered_more c.args.last c.in-Some-number_after.next l (gathering c.walk.so_far)) c.deref-in-walk.ensures.value in
    let small = below c.walk.so_far.number c.in-Some.frame.items c.in-Some-number_after.next after in
    record {
      order = omega (arith, size_is.1, len);
      number = omega (arith, small, ap (λ h. h.number) more, number_more c.args.last c.in-Some-number_after.next c.in-Some.frame.items (gathering c.walk.so_far));
      looks = looks_then start (g.D.Disk.view c.walk.disk) (g.D.Disk.view c.read_one.new.disk) inv.looks (looks_read 3 _ _ _ c.read_one.ensures.call);
      remains = λ honest frames next are is.
          let now = same_bytes start (g.D.Disk.view c.walk.disk) inv.looks honest in
          let found_now = rw c.in-Some.is at (c.in_ok-frame.ensures.found now.0) in
          let found = subst (λ (l : List ℕ). HasFrame c.walk.gate c.args.end c.in-Some.frame.items l) now.1 found_now in
          let inside = c.requires.inside honest in
          let on = goes_to K c.args.last c.args.end start.contents next inside c.walk.gate (gathering c.walk.so_far) c.in-Some.frame.items found.0 found.2 c.in-Some-number_after.next (inv.remains honest frames next are is) after in
          subst (λ n. Remains K c.args.last c.args.end start.contents next (c.walk.gate + n) (gathering c.in_ok-so_far.so_far)) (sym len)
          (subst (λ h. Remains K c.args.last c.args.end start.contents next (c.walk.gate + length c.in-Some.frame.items) h) (sym more) on);
    }
