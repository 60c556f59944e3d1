use Rattle.std.proofs.Common.{rules, ◌≡◌, ◌<◌, ◌+◌, ◌^◌, ◌++◌, List, ℕ, length, refl, sym, ap, subst, arith, ◌∙◌}
use Rattle.pfx_log.specs.Holding.{Holds}
use Rattle.pfx_log.specs.Logs.{Block, IsBlock, block_of, block_text, head_of, last_head, last_number, log_bytes, with_block}
use Rattle.pfx_log.proofs.Appendings.{held_more, leaves_grows, new_end, put_is, put_long}
use Rattle.pfx_log.specs.declared.faults.AppendFault.TheVariants.{NoMemory}
use Rattle.pfx_log.proofs.file.LogFile.append_in.Goals as goal

pub returns-in_err-put_behind-clause-appends : goal.returns-in_err-put_behind-clause-appends
returns-in_err-put_behind-clause-appends g c log is_open =
    let view = g.D.Disk.view in
    let old = c.args.self.now in
    let b : Block = block_of c.args.first c.args.last c.args.frames.now in
    let last = is_open.end.last in
    let may = c.in_default.ensures in
    let next = may.1 in
    let order = may.2 in
    let most = may.3 in
    let small : c.args.last < 2 ^ 64 = search rules in
    let block : IsBlock (last_number log) b = record { next = omega (arith, last, next); some = omega (arith, order); small = small; most = omega (arith, most); bytes = c.head_of-head.ensures.bytes } in
    let split = put_is log b old.place c.head_of-head.result c.deref.result.now is_open.end c.head_of-head.ensures.value (c.deref.ensures.value ∙ c.put_block.ensures.items) in
    record {
      leaves = leaves_grows log b block (view old.disk) (view c.put_behind.new.disk) (c.put_behind.ensures.puts.leaves is_open.honest (log_bytes log) (block_text b ++ head_of (last_head log) b) (sym is_open.end.at) split);
      opened = search rules;
      acknowledged = search rules;
    }

pub invariant_of-self-2 : goal.invariant_of-self-2
invariant_of-self-2 g c = record {
  inside = λ now.
      let long = c.in_ok-put_behind.ensures.puts.long (c.put_behind.ensures.run.honest.1 now) in
      let len : c.len.result ≡ length c.put_block.new.room.items = search rules in
      omega (arith, long, len, ap length c.deref.ensures.value);
}

pub returns-clause-appends : goal.returns-clause-appends
returns-clause-appends g c log is_open =
    let view = g.D.Disk.view in
    let old = c.args.self.now in
    let b : Block = block_of c.args.first c.args.last c.args.frames.now in
    let last = is_open.end.last in
    let may = c.in_default.ensures in
    let next = may.1 in
    let order = may.2 in
    let most = may.3 in
    let small : c.args.last < 2 ^ 64 = search rules in
    let block : IsBlock (last_number log) b = record { next = omega (arith, last, next); some = omega (arith, order); small = small; most = omega (arith, most); bytes = c.head_of-head.ensures.bytes } in
    let split = put_is log b old.place c.head_of-head.result c.deref.result.now is_open.end c.head_of-head.ensures.value (c.deref.ensures.value ∙ c.put_block.ensures.items) in
    let text : List ℕ = block_text b ++ head_of (last_head log) b in
    let before = is_open.images (view old.disk).contents is_open.honest.here in
    let leaves = c.put_behind.ensures.puts.leaves is_open.honest (log_bytes log) text (sym is_open.end.at) split in
    let held : Holds (view c.put_behind.new.disk).contents (with_block log b) = held_more log b block (view c.put_behind.new.disk).contents before.is_log
    (c.in_ok-put_behind.ensures.puts.stands is_open.honest (log_bytes log) text (sym is_open.end.at) split before.stands) in
    let only = c.in_ok-put_behind.ensures.puts.durable is_open.honest in
    let len : c.len.result ≡ length c.put_block.new.room.items = search rules in
    let long = put_long b c.head_of-head.result old.place.head c.put_block.new.room.items c.head_of-head.ensures.value c.put_block.ensures.items in
    record {
      leaves = leaves_grows log b block (view old.disk) (view c.put_behind.new.disk) leaves;
      opened = record {
        honest = leaves.honest;
        images = λ image now. subst (λ x. Holds x (with_block log b)) (sym (only image now)) held;
        end = new_end log b block old.place _ is_open.end (ap (λ (n : ℕ). old.place.at + n) (len ∙ long)) refl (c.head_of-head.ensures.value ∙ ap (λ h. head_of h b) is_open.end.head);
        whole = refl;
      };
      acknowledged = λ image since. subst (λ x. Holds x (with_block log b)) (sym (only image (g.met.D.Disk.only_now c.put_behind.new.disk image since))) held;
    }

pub returns-clause-place : goal.returns-clause-place
returns-clause-place g c =
    let len : c.len.result ≡ length c.put_block.new.room.items = search rules in
    let b : Block = block_of c.args.first c.args.last c.args.frames.now in
    let long = put_long b c.head_of-head.result c.args.self.now.place.head c.put_block.new.room.items c.head_of-head.ensures.value c.put_block.ensures.items in
    record {
      at = ap (λ (n : ℕ). c.args.self.now.place.at + n) (len ∙ long);
      last = refl;
      head = c.head_of-head.ensures.value;
    }

pub returns-in-Err-clause-no_memory : goal.returns-in-Err-clause-no_memory
returns-in-Err-clause-no_memory g c = λ h. let e : c.in-Err.fault ≡ NoMemory = cc in c.in-Err.ensures.2 e
