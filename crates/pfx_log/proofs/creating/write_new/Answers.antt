use Rattle.std.proofs.Common.{rules, ◌≡◌, ◌<◌, ◌∷◌, [], length, refl, ap, arith, ◌∙◌, length-append}
use Rattle.pfx_log.specs.Logs.{IsLog, header_text, new_log}
use Rattle.pfx_log.proofs.Creations.{begins_creates, gate_shut, is_held, new_bytes, new_is_log, put_behind_gate}
use Rattle.pfx_log.proofs.creating.write_new.Goals as goal

pub returns-in_err-begin-clause-makes : goal.returns-in_err-begin-clause-makes
returns-in_err-begin-clause-makes g c =
    let view = g.D.Disk.view in
    let version = c.args.version in
    let state = c.args.state.now in
    let before = c.args.before.now in
    let small : version < 256 = search rules in
    let long : length before ≡ 32 = search rules in
    let is : IsLog (new_log version state before) = new_is_log version state before small c.requires.some c.requires.most long c.first_head-head.ensures.bytes.0 c.first_head-head.ensures.bytes.1 in
    let begun = c.begin.ensures.begun in
    record {
      takes = record { ok = search rules; later = search rules; at_most = search rules; no_fewer = search rules };
      honest = begun.honest;
      leaves = λ honest. begins_creates (new_log version state before) is (new_bytes version state before) (view c.args.disk.now) (view c.begin.new.disk) (begun.leaves honest);
      untouched = begun.untouched;
    }

pub returns-in_err-put_behind-clause-makes : goal.returns-in_err-put_behind-clause-makes
returns-in_err-put_behind-clause-makes g c =
    let view = g.D.Disk.view in
    let version = c.args.version in
    let state = c.args.state.now in
    let before = c.args.before.now in
    let small : version < 256 = search rules in
    let long : length before ≡ 32 = search rules in
    let is : IsLog (new_log version state before) = new_is_log version state before small c.requires.some c.requires.most long c.first_head-head.ensures.bytes.0 c.first_head-head.ensures.bytes.1 in
    let begun = c.in_ok-begin.ensures.begun in
    let run = c.put_behind.ensures.run in
    let split = c.deref.ensures.value ∙ c.in_ok-bytes.ensures in
    record {
      takes = record { ok = search rules; later = search rules; at_most = search rules; no_fewer = search rules };
      honest = (λ h. run.honest.0 (begun.honest.0 h), λ h. begun.honest.1 (run.honest.1 h));
      leaves = λ honest.
          let is_begun = begun.begun honest in
          let first = begun.leaves honest in
          put_behind_gate (new_log version state before) is (new_bytes version state before) (view c.args.disk.now) (view c.begin.new.disk) (view c.put_behind.new.disk) honest begun.takes.later first is_begun.1 is_begun.2
          (c.put_behind.ensures.puts.leaves first.honest [] (header_text (new_log version state before)) refl split);
      untouched = λ honest some. absurd (let none = (begun.begun honest).0 in omega (arith, some, ap length none));
    }

pub returns-clause-makes : goal.returns-clause-makes
returns-clause-makes g c =
    let view = g.D.Disk.view in
    let version = c.args.version in
    let state = c.args.state.now in
    let before = c.args.before.now in
    let small : version < 256 = search rules in
    let long : length before ≡ 32 = search rules in
    let is : IsLog (new_log version state before) = new_is_log version state before small c.requires.some c.requires.most long c.first_head-head.ensures.bytes.0 c.first_head-head.ensures.bytes.1 in
    let begun = c.in_ok-begin.ensures.begun in
    let run = c.in_ok-put_behind.ensures.run in
    let split = c.deref.ensures.value ∙ c.in_ok-bytes.ensures in
    record {
      takes = record { ok = search rules; later = search rules; at_most = search rules; no_fewer = search rules };
      honest = (λ h. run.honest.0 (begun.honest.0 h), λ h. begun.honest.1 (run.honest.1 h));
      leaves = λ honest.
          let is_begun = begun.begun honest in
          let first = begun.leaves honest in
          put_behind_gate (new_log version state before) is (new_bytes version state before) (view c.args.disk.now) (view c.begin.new.disk) (view c.put_behind.new.disk) honest begun.takes.later first is_begun.1 is_begun.2
          (c.put_behind.ensures.puts.leaves first.honest [] (header_text (new_log version state before)) refl split);
      untouched = λ honest some. absurd (let none = (begun.begun honest).0 in omega (arith, some, ap length none));
    }

pub returns-clause-place : goal.returns-clause-place
returns-clause-place g c =
    let view = g.D.Disk.view in
    let version = c.args.version in
    let state = c.args.state.now in
    let before = c.args.before.now in
    let small : version < 256 = search rules in
    let long : length before ≡ 32 = search rules in
    let is : IsLog (new_log version state before) = new_is_log version state before small c.requires.some c.requires.most long c.first_head-head.ensures.bytes.0 c.first_head-head.ensures.bytes.1 in
    let begun = c.in_ok-begin.ensures.begun in
    let puts = c.in_ok-put_behind.ensures.puts in
    let split = c.deref.ensures.value ∙ c.in_ok-bytes.ensures in
    let text = header_text (new_log version state before) in
    let len : c.len.result ≡ length c.in_ok-bytes.bytes.items = search rules in
    record {
      end = record {
        at = (let one = ap length c.in_ok-bytes.ensures in let two = length-append text (0 ∷ []) in let three = ap length (new_bytes version state before) in omega (arith, len, one, two, three));
        last = c.read_u64.ensures;
        head = c.first_head-head.ensures.value;
      };
      empty = λ honest. (begun.begun honest).0;
      held = λ honest.
          let is_begun = begun.begun honest in
          let first = begun.leaves honest in
          is_held (new_log version state before) is (new_bytes version state before) (view c.put_behind.new.disk).contents
          (puts.stands first.honest [] text refl split (gate_shut (new_log version state before) is (new_bytes version state before) (view c.begin.new.disk).contents is_begun.1));
      durable = λ honest. puts.durable (begun.leaves honest).honest;
    }
