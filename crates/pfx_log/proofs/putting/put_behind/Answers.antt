use Rattle.std.proofs.Common.{rules, ◌≡◌, ◌+◌, ◌∷◌, [], ◌++◌, List, ℕ, length, sym, ap, subst, arith, ◌∙◌}
use Rattle.pfx_disk.specs.Disk.{View, Leaves, Torn, Written}
use Rattle.pfx_disk.specs.declared.gates.TheConstants.{GATE_OPEN}
use Rattle.pfx_log.specs.Acts.{Opens}
use Rattle.pfx_log.proofs.Puts.{behind_written, gate_opened, long_written, stands, stands_after, then_synced}
use Rattle.pfx_log.proofs.putting.put_behind.Goals as goal

-- the write behind the gate, as one of the bytes of this front
module _ (a b : View) (gate : ℕ) (bytes front body : List ℕ) (long : length front ≡ gate) (split : bytes ≡ body ++ 0 ∷ []) where
  torn_as : Leaves (Torn (gate + 1) (length bytes)) a b → Leaves (Torn (length front + 1) (length (body ++ 0 ∷ []))) a b
  torn_as l = subst (λ (n : ℕ). Leaves (Torn (n + 1) (length (body ++ 0 ∷ []))) a b) (sym long) (subst (λ (w : List ℕ). Leaves (Torn (gate + 1) (length w)) a b) split l)

  written_as : Written (gate + 1) bytes a.contents b.contents → Written (length front + 1) (body ++ 0 ∷ []) a.contents b.contents
  written_as w = subst (λ (n : ℕ). Written (n + 1) (body ++ 0 ∷ []) a.contents b.contents) (sym long) (subst (λ (l : List ℕ). Written (gate + 1) l a.contents b.contents) split w)

pub returns-in_err-write_at-clause-puts : goal.returns-in_err-write_at-clause-puts
returns-in_err-write_at-clause-puts g c =
    let view = g.D.Disk.view in
    let a = view c.args.disk.now in
    let b1 = view c.write_at.new.self in
    record {
      leaves = λ honest front body long split. behind_written front body a b1 b1 honest (length (body ++ 0 ∷ [])) (torn_as a b1 c.args.gate c.args.bytes.now front body long split (c.write_at.ensures.leaves honest));
      stands = search rules;
      durable = search rules;
      long = search rules;
    }

pub returns-in_err-sync-clause-puts : goal.returns-in_err-sync-clause-puts
returns-in_err-sync-clause-puts g c =
    let view = g.D.Disk.view in
    let a = view c.args.disk.now in
    let b1 = view c.write_at.new.self in
    let b2 = view c.sync.new.self in
    record {
      leaves = λ honest front body long split.
          let l1 = c.write_at.ensures.leaves honest in
          then_synced front body a b1 b2 honest (Opens front body) c.write_at.ensures.time.later
          (behind_written front body a b1 b1 honest (length (body ++ 0 ∷ [])) (torn_as a b1 c.args.gate c.args.bytes.now front body long split l1)) (c.sync.ensures.leaves l1.honest);
      stands = search rules;
      durable = search rules;
      long = search rules;
    }

pub returns-in_err-write_at-2-clause-puts : goal.returns-in_err-write_at-2-clause-puts
returns-in_err-write_at-2-clause-puts g c =
    let view = g.D.Disk.view in
    let a = view c.args.disk.now in
    let b1 = view c.write_at.new.self in
    let b2 = view c.sync.new.self in
    let b3 = view c.write_at-2.new.self in
    record {
      leaves = λ honest front body long split.
          let l1 = c.write_at.ensures.leaves honest in
          let l2 = c.sync.ensures.leaves l1.honest in
          let l3 = subst (λ (n : ℕ). Leaves (Torn n 1) b2 b3) (sym long) (c.write_at-2.ensures.leaves l2.honest) in
          gate_opened front body a b1 b2 honest b3 c.write_at.ensures.time.later c.sync.ensures.time.later (torn_as a b1 c.args.gate c.args.bytes.now front body long split l1)
          (written_as a b1 c.args.gate c.args.bytes.now front body long split (c.in_ok-write_at.ensures.written honest)) l2 (c.in_ok-sync.ensures.durable l1.honest) l3;
      stands = search rules;
      durable = search rules;
      long = search rules;
    }

pub returns-in_err-sync-2-clause-puts : goal.returns-in_err-sync-2-clause-puts
returns-in_err-sync-2-clause-puts g c =
    let view = g.D.Disk.view in
    let a = view c.args.disk.now in
    let b1 = view c.write_at.new.self in
    let b2 = view c.sync.new.self in
    let b3 = view c.write_at-2.new.self in
    let b4 = view c.sync-2.new.self in
    record {
      leaves = λ honest front body long split.
          let l1 = c.write_at.ensures.leaves honest in
          let l2 = c.sync.ensures.leaves l1.honest in
          let l3 = c.write_at-2.ensures.leaves l2.honest in
          then_synced front body a b3 b4 honest (Opens front body) (omega (arith, c.write_at.ensures.time.later, c.sync.ensures.time.later, c.write_at-2.ensures.time.later))
          (gate_opened front body a b1 b2 honest b3 c.write_at.ensures.time.later c.sync.ensures.time.later (torn_as a b1 c.args.gate c.args.bytes.now front body long split l1)
          (written_as a b1 c.args.gate c.args.bytes.now front body long split (c.in_ok-write_at.ensures.written honest)) l2 (c.in_ok-sync.ensures.durable l1.honest) (subst (λ (n : ℕ). Leaves (Torn n 1) b2 b3) (sym long) l3))
          (c.sync-2.ensures.leaves l3.honest);
      stands = search rules;
      durable = search rules;
      long = search rules;
    }

pub returns-clause-puts : goal.returns-clause-puts
returns-clause-puts g c =
    let view = g.D.Disk.view in
    let a = view c.args.disk.now in
    let b1 = view c.write_at.new.self in
    let b2 = view c.sync.new.self in
    let b3 = view c.write_at-2.new.self in
    let b4 = view c.sync-2.new.self in
    record {
      leaves = λ honest front body long split.
          let l1 = c.write_at.ensures.leaves honest in
          let l2 = c.sync.ensures.leaves l1.honest in
          let l3 = c.write_at-2.ensures.leaves l2.honest in
          then_synced front body a b3 b4 honest (Opens front body) (omega (arith, c.write_at.ensures.time.later, c.sync.ensures.time.later, c.write_at-2.ensures.time.later))
          (gate_opened front body a b1 b2 honest b3 c.write_at.ensures.time.later c.sync.ensures.time.later (torn_as a b1 c.args.gate c.args.bytes.now front body long split l1)
          (written_as a b1 c.args.gate c.args.bytes.now front body long split (c.in_ok-write_at.ensures.written honest)) l2 (c.in_ok-sync.ensures.durable l1.honest) (subst (λ (n : ℕ). Leaves (Torn n 1) b2 b3) (sym long) l3))
          (c.sync-2.ensures.leaves l3.honest);
      stands = λ honest front body long split shut.
          let l1 = c.write_at.ensures.leaves honest in
          let l2 = c.sync.ensures.leaves l1.honest in
          let l3 = c.write_at-2.ensures.leaves l2.honest in
          let l4 = c.sync-2.ensures.leaves l3.honest in
          let last = subst (λ (n : ℕ). Written n (GATE_OPEN ∷ []) b2.contents b3.contents) (sym long) (c.in_ok-write_at-2.ensures.written l2.honest) in
          stands_after front body b3.contents b4.contents l4.contents (stands front body a b1 b2 b3 shut (written_as a b1 c.args.gate c.args.bytes.now front body long split (c.in_ok-write_at.ensures.written honest)) l2.contents last);
      durable = λ honest.
          let l1 = c.write_at.ensures.leaves honest in
          let l2 = c.sync.ensures.leaves l1.honest in
          let l3 = c.write_at-2.ensures.leaves l2.honest in
          let l4 = c.sync-2.ensures.leaves l3.honest in
          λ image is. c.in_ok-sync-2.ensures.durable l3.honest image is ∙ sym l4.contents;
      long = λ honest.
          let l1 = c.write_at.ensures.leaves honest in
          let l2 = c.sync.ensures.leaves l1.honest in
          let l3 = c.write_at-2.ensures.leaves l2.honest in
          let l4 = c.sync-2.ensures.leaves l3.honest in
          let inside = c.requires.inside honest in
          let first = long_written (c.args.gate + 1) c.args.bytes.now a.contents b1.contents (omega (arith, inside)) (c.in_ok-write_at.ensures.written honest) in
          let no_shorter = l3.contents.no_shorter in
          omega (arith, first, no_shorter, ap length l2.contents, ap length l4.contents);
    }
