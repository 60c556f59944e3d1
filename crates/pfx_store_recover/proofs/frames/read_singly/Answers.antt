use Rattle.std.proofs.Common.{◌≡◌, ◌≢◌, ◌≤◌, ◌<◌, ◌+◌, ◌++◌, ℕ, List, length, get_or, take, drop, subst, sym, ap, ◌∙◌, rules, arith, length-take, length-drop, length-append, Some}
use Rattle.pfx_disk.specs.declared.gates.TheConstants.{GATE_OPEN}
use Rattle.std.proofs.Math.Seq.{take-length}
use Rattle.pfx_segment.specs.Frames.{frame_len}
use Rattle.pfx_segment.specs.Reading.{IsDamage}
use Rattle.pfx_store_image.specs.Recovery.{walk}
use Rattle.pfx_store_recover.specs.Walking.{IsWalk, frames_of}
use Rattle.pfx_store_recover.proofs.Giving.{gives_made}
use Rattle.pfx_store_recover.proofs.Looking.{looks_none, looks_read, looks_then, kept_after}
use Rattle.pfx_store_recover.proofs.Walking.{gives_shut, gives_fault, gives_wrong, walks_on, walks_none, WalksTo}
use Rattle.pfx_store_recover.proofs.frames.read_singly.Goals as goal

-- the frame that was read, as the bytes have it
module _ (gate end : ℕ) where
  abbrev HasFrame : List ℕ → List ℕ → Type 0
  HasFrame frame bytes = (get_or bytes gate 0 ≡ GATE_OPEN) × (gate + frame_len gate bytes < end) × (frame ≡ take (frame_len gate bytes) (drop gate bytes))

pub returns-in_err-frame : goal.returns-in_err-frame
returns-in_err-frame g c = record {
  call = record { looks = looks_then _ _ _ c.walk.invariant.looks (looks_read 3 _ _ _ c.read_one.ensures.call); device = search rules };
  walked = search rules;
  exact = λ bytes kept n long.
      let K = g.F.Format.codec in
      let inv = c.walk.invariant in
      let now = kept_after bytes (g.D.Disk.view c.args.disk.now) (g.D.Disk.view c.walk.disk) inv.looks kept in
      let damage = subst (λ (l : List ℕ). IsDamage c.in_err-frame.field-0.0 (λ at. (at ≡ c.walk.gate) × (get_or l c.walk.gate 0 ≡ GATE_OPEN) × (c.args.end ≤ c.walk.gate + frame_len c.walk.gate l))) now.contents (c.in_err-frame.ensures.damaged now.honest) in
      gives_made (λ w. IsWalk (frames_of w) w.last) _ _ c.from_residual.result
      (gives_fault K c.args.first c.args.end c.args.number bytes c.walk.bytes.items c.walk.gate c.walk.last (inv.walks bytes kept) n inv.order long (λ w. IsWalk (frames_of w) w.last) c.in_err-frame.field-0.0 damage)
      c.from_residual.ensures.1;
}

pub returns-in_default-after : goal.returns-in_default-after
returns-in_default-after g c = record {
  call = record { looks = looks_then _ _ _ c.walk.invariant.looks (looks_read 3 _ _ _ c.read_one.ensures.call); device = search rules };
  walked = search rules;
  exact = λ bytes kept n long.
      let K = g.F.Format.codec in
      let inv = c.walk.invariant in
      let now = kept_after bytes (g.D.Disk.view c.args.disk.now) (g.D.Disk.view c.walk.disk) inv.looks kept in
      let found_now = rw c.in-Some.is at (c.in_ok-frame.ensures.found now.honest) in
      let found = subst (λ (l : List ℕ). HasFrame c.walk.gate c.args.end c.in-Some.frame.items l) now.contents found_now in
      let wrong = ap (λ (l : List ℕ). K.after c.walk.last l) (sym (c.deref.ensures.value ∙ found.2)) ∙ sym c.after.ensures ∙ c.in_default-after.is in
      gives_wrong K c.args.first c.args.end c.args.number bytes c.walk.bytes.items c.walk.gate c.walk.last (inv.walks bytes kept) n inv.order long found.0 found.1 wrong;
}

pub returns-in_default : goal.returns-in_default
returns-in_default g c = record {
  call = record { looks = looks_then _ _ _ c.walk.invariant.looks (looks_read 3 _ _ _ c.read_one.ensures.call); device = search rules };
  walked = search rules;
  exact = λ bytes kept n long.
      let inv = c.walk.invariant in
      let now = kept_after bytes (g.D.Disk.view c.args.disk.now) (g.D.Disk.view c.walk.disk) inv.looks kept in
      let shut_now = rw c.in_default.is at (c.in_ok-frame.ensures.shut now.honest) in
      let shut = subst (λ (l : List ℕ). get_or l c.walk.gate 0 ≢ GATE_OPEN) now.contents shut_now in
      let len : c.len-len.result ≡ length c.walk.bytes.items = search rules in
      let all : take c.len-len.result c.walk.bytes.items ≡ c.walk.bytes.items = ap (λ (k : ℕ). take k c.walk.bytes.items) len ∙ take-length c.walk.bytes.items in
      subst (λ (l : List ℕ). IsWalk l c.walk.last (walk g.F.Format.codec (1 + n) c.args.first c.args.end c.args.number bytes)) (sym all)
      (gives_shut g.F.Format.codec c.args.first c.args.end c.args.number bytes c.walk.bytes.items c.walk.gate c.walk.last (inv.walks bytes kept) n inv.order long shut);
}

pub walk-init : goal.walk-init
walk-init g c = record {
  order = c.requires.stretch.order;
  last = c.requires.stretch.number;
  looks = looks_none _;
  place = omega (arith, ap length c.new-bytes.ensures.items);
  walks = λ image kept. subst (λ (l : List ℕ). WalksTo g.F.Format.codec c.args.first c.args.end c.args.number image l c.args.first c.args.number) (sym c.new-bytes.ensures.items) (walks_none g.F.Format.codec c.args.first c.args.end c.args.number image);
}

pub walk-preserved : goal.walk-preserved
walk-preserved g c =
    let K = g.F.Format.codec in
    let inv = c.walk.invariant in
    let old = g.D.Disk.view c.args.disk.now in
    let size_is = rw c.in-Some.is at c.in_ok-frame.ensures.size in
    let len : c.len-gate.result ≡ length c.in-Some.frame.items = search rules in
    let pushed : c.extend_from_slice.new.self.items ≡ c.walk.bytes.items ++ c.in-Some.frame.items = c.in_ok-extend_from_slice.ensures.items ∙ ap (λ (l : List ℕ). c.walk.bytes.items ++ l) c.deref-in-walk.ensures.value in
    let after : K.after c.walk.last c.in-Some.frame.items ≡ Some c.in-Some-after.next = ap (λ (l : List ℕ). K.after c.walk.last l) (sym c.deref.ensures.value) ∙ sym c.after.ensures ∙ c.in-Some-after.is in
    record {
      order = omega (arith, size_is.1, len);
      last = g.met.F.Format.bounds.after c.walk.last c.in-Some.frame.items c.in-Some-after.next after;
      looks = looks_then old (g.D.Disk.view c.walk.disk) (g.D.Disk.view c.read_one.new.disk) inv.looks (looks_read 3 _ _ _ c.read_one.ensures.call);
      place = omega (arith, inv.place, len, ap length pushed, length-append c.walk.bytes.items c.in-Some.frame.items);
      walks = λ bytes kept.
          let now = kept_after bytes old (g.D.Disk.view c.walk.disk) inv.looks kept in
          let found_now = rw c.in-Some.is at (c.in_ok-frame.ensures.found now.honest) in
          let found = subst (λ (l : List ℕ). HasFrame c.walk.gate c.args.end c.in-Some.frame.items l) now.contents found_now in
          let inside : c.args.end ≤ length bytes = omega (arith, c.requires.stretch.inside kept.honest, ap length kept.contents) in
          let long : length c.in-Some.frame.items ≡ frame_len c.walk.gate bytes = omega (arith, ap length found.2, length-take (frame_len c.walk.gate bytes) (drop c.walk.gate bytes), length-drop c.walk.gate bytes, found.1, inside) in
          walks_on K c.args.first c.args.end c.args.number bytes c.walk.bytes.items c.walk.gate c.walk.last (inv.walks bytes kept) c.in-Some.frame.items c.extend_from_slice.new.self.items (c.walk.gate + c.len-gate.result) c.in-Some-after.next (omega (arith, len)) pushed found.0 found.1 found.2 long after;
    }
