use Rattle.std.proofs.Common.{rules}
use Rattle.std.proofs.Common.{◌≡◌, ◌∙◌, ◌≤◌, ap, ◌++◌, ◌∷◌, [], sym, subst, length, arith}
use Rattle.std.proofs.lemmas.Bool.{cond-true, false≢true, lt-ltb}
use Rattle.pfx_disk.specs.declared.gates.TheConstants.{GATE_OPEN}
use Rattle.pfx_store_image.specs.Store.{with_frame, turned_at}
use Rattle.pfx_store_file.specs.Holding.{Holds}
use Rattle.pfx_store_file.specs.Tending.{append_calls, settled}
use Rattle.pfx_store_file.proofs.Keeping.{keeps_then, keeps_none, room_there, room_made}
use Rattle.pfx_store_file.proofs.Calling.{fault_back, works_handed}
use Rattle.std.proofs.Common.{List}
use Rattle.pfx_disk.specs.Stop.{Act}
use Rattle.pfx_segment.specs.Acts.{put_acts}
use Rattle.pfx_disk.specs.CallsMade.{HasMade, HasBrokenOff, HasKeptTo}
use Rattle.pfx_disk.proofs.CallsMade.{made_then, broken_first, broken_then, within_first, within_then}
use Rattle.pfx_store_file.specs.Acts.{end_acts, ended_file, turn_acts, turned_file, gate_of}
use Rattle.pfx_store_file.specs.Files.{AreOf}
use Rattle.pfx_store_file.specs.Fitting.{HasRoom}
use Rattle.pfx_store_file.specs.declared.faults.StoreFault.TheVariants.{Broken, Device, NoRoom}
use Rattle.pfx_store_file.specs.declared.sizes.Sizes.{Sizes}
use Rattle.pfx_store_file.proofs.Rooms.{there_acts, full_acts, there_file, full_file}
use Rattle.pfx_store_file.proofs.file.StoreFile.append_or_turn.Goals as goal

pub returns-in_err-put_frame-clause-commits : goal.returns-in_err-put_frame-clause-commits
returns-in_err-put_frame-clause-commits g c K laws h p s holds reads begins body t pending one =
    record {
      holds = search rules;
      keeps = λ from all run. (c.put_frame.ensures.commits K laws h p s c.args.spelling.now holds body t pending one).keeps from all run;
      acknowledged = search rules;
    }

pub returns-then-has_room-clause-commits : goal.returns-then-has_room-clause-commits
returns-then-has_room-clause-commits g c K laws h p s holds reads begins body t pending one =
    let then = c.put_frame.new.self in
    record {
      holds = subst (λ q. Holds K h then.places (with_frame q (GATE_OPEN ∷ body)) t c.args.spelling.now (g.D.Disk.view then.disk)) (sym (room_there (length c.args.frame.now) c.args.self.now.places p s (c.has_room.ensures.0 c.if-has_room.true))) ((c.in_ok-put_frame.ensures.commits K laws h p s c.args.spelling.now holds body t pending one).holds);
      keeps = λ from all run. (c.put_frame.ensures.commits K laws h p s c.args.spelling.now holds body t pending one).keeps from all run;
      acknowledged = λ from all run. (c.in_ok-put_frame.ensures.commits K laws h p s c.args.spelling.now holds body t pending one).acknowledged from all run;
    }

pub returns-in_err-end_checkpoint-clause-commits : goal.returns-in_err-end_checkpoint-clause-commits
returns-in_err-end_checkpoint-clause-commits g c K laws h p s holds reads begins body t pending one =
    let view = g.D.Disk.view in
    let a = view c.args.self.now.disk in
    let b = view c.end_checkpoint.new.self.disk in
    record {
      holds = search rules;
      keeps = λ from all run. keeps_then K from all all (all ++ (GATE_OPEN ∷ body) ∷ []) a b b c.end_checkpoint.ensures.call.takes.later ((c.end_checkpoint.ensures.keeps K laws h p s holds reads).keeps from all run) (keeps_none K laws h b from all (GATE_OPEN ∷ body));
      acknowledged = search rules;
    }

pub returns-in_err-turn-clause-commits : goal.returns-in_err-turn-clause-commits
returns-in_err-turn-clause-commits g c K laws h p s holds reads begins body t pending one =
    let view = g.D.Disk.view in
    let a = view c.args.self.now.disk in
    let b = view c.end_checkpoint.new.self.disk in
    let d = view c.turn.new.self.disk in
    let holds_1 = (c.in_ok-end_checkpoint.ensures.keeps K laws h p s holds reads).holds in
    let later : a.clock ≤ d.clock = omega (arith, c.end_checkpoint.ensures.call.takes.later, c.turn.ensures.call.takes.later) in
    record {
      holds = search rules;
      keeps = λ from all run.
          let more = all ++ (GATE_OPEN ∷ body) ∷ [] in
          let keeps_1 = (c.end_checkpoint.ensures.keeps K laws h p s holds reads).keeps from all run in
          let keeps_2 = (c.turn.ensures.keeps K laws h (settled p) s c.args.spelling.now holds_1 begins c.args.spelling.now).keeps from all run in
          keeps_then K from all all more a d d later (keeps_then K from all all all a b d c.end_checkpoint.ensures.call.takes.later keeps_1 keeps_2) (keeps_none K laws h d from all (GATE_OPEN ∷ body));
      acknowledged = search rules;
    }

pub returns-in_err-put_frame-2-clause-commits : goal.returns-in_err-put_frame-2-clause-commits
returns-in_err-put_frame-2-clause-commits g c K laws h p s holds reads begins body t pending one =
    let view = g.D.Disk.view in
    let a = view c.args.self.now.disk in
    let b = view c.end_checkpoint.new.self.disk in
    let d = view c.turn.new.self.disk in
    let holds_1 = (c.in_ok-end_checkpoint.ensures.keeps K laws h p s holds reads).holds in
    let holds_2 = (c.in_ok-turn.ensures.keeps K laws h (settled p) s c.args.spelling.now holds_1 begins c.args.spelling.now).holds in
    let later : a.clock ≤ d.clock = omega (arith, c.end_checkpoint.ensures.call.takes.later, c.turn.ensures.call.takes.later) in
    record {
      holds = search rules;
      keeps = λ from all run.
          let more = all ++ (GATE_OPEN ∷ body) ∷ [] in
          let keeps_1 = (c.end_checkpoint.ensures.keeps K laws h p s holds reads).keeps from all run in
          let keeps_2 = (c.turn.ensures.keeps K laws h (settled p) s c.args.spelling.now holds_1 begins c.args.spelling.now).keeps from all run in
          keeps_then K from all all more a d (view c.put_frame-2.new.self.disk) later (keeps_then K from all all all a b d c.end_checkpoint.ensures.call.takes.later keeps_1 keeps_2) ((c.put_frame-2.ensures.commits K laws h (turned_at (settled p) s) s c.args.spelling.now holds_2 body t pending one).keeps from all run);
      acknowledged = search rules;
    }

pub returns-clause-commits : goal.returns-clause-commits
returns-clause-commits g c K laws h p s holds reads begins body t pending one =
    let then = c.put_frame-2.new.self in
    let holds_1 = (c.in_ok-end_checkpoint.ensures.keeps K laws h p s holds reads).holds in
    let holds_2 = (c.in_ok-turn.ensures.keeps K laws h (settled p) s c.args.spelling.now holds_1 begins c.args.spelling.now).holds in
    let view = g.D.Disk.view in
    let a = view c.args.self.now.disk in
    let b = view c.end_checkpoint.new.self.disk in
    let d = view c.turn.new.self.disk in
    let later : a.clock ≤ d.clock = omega (arith, c.end_checkpoint.ensures.call.takes.later, c.turn.ensures.call.takes.later) in
    record {
      holds = subst (λ q. Holds K h then.places (with_frame q (GATE_OPEN ∷ body)) t c.args.spelling.now (g.D.Disk.view then.disk)) (sym (room_made (length c.args.frame.now) c.args.self.now.places p s (λ room. false≢true (c.if-has_room.ensures.1 room)))) ((c.in_ok-put_frame-2.ensures.commits K laws h (turned_at (settled p) s) s c.args.spelling.now holds_2 body t pending one).holds);
      keeps = λ from all run.
          let more = all ++ (GATE_OPEN ∷ body) ∷ [] in
          let keeps_1 = (c.end_checkpoint.ensures.keeps K laws h p s holds reads).keeps from all run in
          let keeps_2 = (c.turn.ensures.keeps K laws h (settled p) s c.args.spelling.now holds_1 begins c.args.spelling.now).keeps from all run in
          keeps_then K from all all more a d (view c.put_frame-2.new.self.disk) later (keeps_then K from all all all a b d c.end_checkpoint.ensures.call.takes.later keeps_1 keeps_2) ((c.put_frame-2.ensures.commits K laws h (turned_at (settled p) s) s c.args.spelling.now holds_2 body t pending one).keeps from all run);
      acknowledged = λ from all run. (c.in_ok-put_frame-2.ensures.commits K laws h (turned_at (settled p) s) s c.args.spelling.now holds_2 body t pending one).acknowledged from all run;
    }

pub returns-in_err-put_frame-clause-acts : goal.returns-in_err-put_frame-clause-acts
returns-in_err-put_frame-clause-acts g c K f s are honest =
    let view = g.D.Disk.view in
    let old = c.args.self.now.places in
    let sp = c.args.spelling.now in
    let start = c.args.start.now in
    let bytes = c.args.frame.now in
    let a = view c.args.self.now.disk in
    let acts = there_acts K f s sp start bytes old are (c.has_room.ensures.0 c.if-has_room.true) in
    let e = view c.put_frame.new.self.disk in
    record {
      made = search rules;
      broken_off = λ is. subst (λ (l : List Act). HasBrokenOff l a e) (sym acts) ((c.put_frame.ensures.acts K f are honest).broken_off (fault_back _ c.put_frame.result _ Device (c.in_err-put_frame.was) c.from_residual.ensures.1 is));
      between = subst (λ (l : List Act). HasKeptTo l a e) (sym acts) ((c.put_frame.ensures.acts K f are honest).between);
    }

pub returns-then-has_room-clause-acts : goal.returns-then-has_room-clause-acts
returns-then-has_room-clause-acts g c K f s are honest =
    let view = g.D.Disk.view in
    let old = c.args.self.now.places in
    let sp = c.args.spelling.now in
    let start = c.args.start.now in
    let bytes = c.args.frame.now in
    let a = view c.args.self.now.disk in
    let acts = there_acts K f s sp start bytes old are (c.has_room.ensures.0 c.if-has_room.true) in
    let e = view c.put_frame.new.self.disk in
    record {
      made = subst (λ (l : List Act). HasMade l a e) (sym acts) ((c.in_ok-put_frame.ensures.acts K f are honest).made);
      broken_off = search rules;
      between = subst (λ (l : List Act). HasKeptTo l a e) (sym acts) ((c.put_frame.ensures.acts K f are honest).between);
    }

pub returns-in_err-end_checkpoint-clause-acts : goal.returns-in_err-end_checkpoint-clause-acts
returns-in_err-end_checkpoint-clause-acts g c K f s are honest =
    let view = g.D.Disk.view in
    let old = c.args.self.now.places in
    let sp = c.args.spelling.now in
    let start = c.args.start.now in
    let bytes = c.args.frame.now in
    let a = view c.args.self.now.disk in
    let acts = full_acts K f s sp start bytes old are (λ room. false≢true (sym c.if-has_room.false ∙ c.has_room.ensures.1 room)) in
    let ended = ended_file K f in
    let turned = turned_file K ended s in
    let one = end_acts K f sp in
    let two = turn_acts K ended start in
    let three = put_acts (gate_of K turned) bytes in
    let b = view c.end_checkpoint.new.self.disk in
    let l1 = c.end_checkpoint.ensures.call.takes.later in
    let p1 = (c.end_checkpoint.ensures.acts K f are honest).between in
    record {
      made = search rules;
      broken_off = λ is. subst (λ (l : List Act). HasBrokenOff l a b) (sym acts) (broken_first (one ++ two) three a b (broken_first one two a b ((c.end_checkpoint.ensures.acts K f are honest).broken_off (fault_back _ c.end_checkpoint.result _ Device (c.in_err-end_checkpoint.was) c.from_residual-in_err-end_checkpoint.ensures.1 is))));
      between = subst (λ (l : List Act). HasKeptTo l a b) (sym acts) (within_first (one ++ two) three a b (within_first one two a b p1));
    }

pub returns-in_err-turn-clause-acts : goal.returns-in_err-turn-clause-acts
returns-in_err-turn-clause-acts g c K f s are honest =
    let view = g.D.Disk.view in
    let old = c.args.self.now.places in
    let sp = c.args.spelling.now in
    let start = c.args.start.now in
    let bytes = c.args.frame.now in
    let a = view c.args.self.now.disk in
    let acts = full_acts K f s sp start bytes old are (λ room. false≢true (sym c.if-has_room.false ∙ c.has_room.ensures.1 room)) in
    let ended = ended_file K f in
    let turned = turned_file K ended s in
    let one = end_acts K f sp in
    let two = turn_acts K ended start in
    let three = put_acts (gate_of K turned) bytes in
    let b = view c.end_checkpoint.new.self.disk in
    let l1 = c.end_checkpoint.ensures.call.takes.later in
    let p1 = (c.end_checkpoint.ensures.acts K f are honest).between in
    let d = view c.turn.new.self.disk in
    let are1 = c.in_ok-end_checkpoint.ensures.file K f are honest in
    let h1 = c.end_checkpoint.ensures.call.honest.0 honest in
    let w1 = (c.in_ok-end_checkpoint.ensures.acts K f are honest).made in
    let p2 = (c.turn.ensures.acts K ended are1 h1).between in
    record {
      made = search rules;
      broken_off = λ is. subst (λ (l : List Act). HasBrokenOff l a d) (sym acts) (broken_first (one ++ two) three a d (broken_then one two a b d w1 ((c.turn.ensures.acts K ended are1 h1).broken_off (fault_back _ c.turn.result _ Device (c.in_err-turn.was) c.from_residual-in_err-turn.ensures.1 is))));
      between = subst (λ (l : List Act). HasKeptTo l a d) (sym acts) (within_first (one ++ two) three a d (within_then one two a b d w1 l1 p1 p2));
    }

pub returns-in_err-put_frame-2-clause-acts : goal.returns-in_err-put_frame-2-clause-acts
returns-in_err-put_frame-2-clause-acts g c K f s are honest =
    let view = g.D.Disk.view in
    let old = c.args.self.now.places in
    let sp = c.args.spelling.now in
    let start = c.args.start.now in
    let bytes = c.args.frame.now in
    let a = view c.args.self.now.disk in
    let acts = full_acts K f s sp start bytes old are (λ room. false≢true (sym c.if-has_room.false ∙ c.has_room.ensures.1 room)) in
    let ended = ended_file K f in
    let turned = turned_file K ended s in
    let one = end_acts K f sp in
    let two = turn_acts K ended start in
    let three = put_acts (gate_of K turned) bytes in
    let b = view c.end_checkpoint.new.self.disk in
    let l1 = c.end_checkpoint.ensures.call.takes.later in
    let p1 = (c.end_checkpoint.ensures.acts K f are honest).between in
    let d = view c.turn.new.self.disk in
    let are1 = c.in_ok-end_checkpoint.ensures.file K f are honest in
    let h1 = c.end_checkpoint.ensures.call.honest.0 honest in
    let w1 = (c.in_ok-end_checkpoint.ensures.acts K f are honest).made in
    let p2 = (c.turn.ensures.acts K ended are1 h1).between in
    let e = view c.put_frame-2.new.self.disk in
    let are2 = c.in_ok-turn.ensures.file K ended are1 s in
    let h2 = c.turn.ensures.call.honest.0 h1 in
    let w12 = made_then one two a b d w1 ((c.in_ok-turn.ensures.acts K ended are1 h1).made) in
    let p12 = within_then one two a b d w1 l1 p1 p2 in
    let l12 : a.clock ≤ d.clock = omega (arith, l1, c.turn.ensures.call.takes.later) in
    let p3 = (c.put_frame-2.ensures.acts K turned are2 h2).between in
    record {
      made = search rules;
      broken_off = λ is. subst (λ (l : List Act). HasBrokenOff l a e) (sym acts) (broken_then (one ++ two) three a d e w12 ((c.put_frame-2.ensures.acts K turned are2 h2).broken_off (fault_back _ c.put_frame-2.result _ Device (c.in_err-put_frame-2.was) c.from_residual-in_err-put_frame-2.ensures.1 is)));
      between = subst (λ (l : List Act). HasKeptTo l a e) (sym acts) (within_then (one ++ two) three a d e w12 l12 p12 p3);
    }

pub returns-clause-acts : goal.returns-clause-acts
returns-clause-acts g c K f s are honest =
    let view = g.D.Disk.view in
    let old = c.args.self.now.places in
    let sp = c.args.spelling.now in
    let start = c.args.start.now in
    let bytes = c.args.frame.now in
    let a = view c.args.self.now.disk in
    let acts = full_acts K f s sp start bytes old are (λ room. false≢true (sym c.if-has_room.false ∙ c.has_room.ensures.1 room)) in
    let ended = ended_file K f in
    let turned = turned_file K ended s in
    let one = end_acts K f sp in
    let two = turn_acts K ended start in
    let three = put_acts (gate_of K turned) bytes in
    let b = view c.end_checkpoint.new.self.disk in
    let l1 = c.end_checkpoint.ensures.call.takes.later in
    let p1 = (c.end_checkpoint.ensures.acts K f are honest).between in
    let d = view c.turn.new.self.disk in
    let are1 = c.in_ok-end_checkpoint.ensures.file K f are honest in
    let h1 = c.end_checkpoint.ensures.call.honest.0 honest in
    let w1 = (c.in_ok-end_checkpoint.ensures.acts K f are honest).made in
    let p2 = (c.turn.ensures.acts K ended are1 h1).between in
    let e = view c.put_frame-2.new.self.disk in
    let are2 = c.in_ok-turn.ensures.file K ended are1 s in
    let h2 = c.turn.ensures.call.honest.0 h1 in
    let w12 = made_then one two a b d w1 ((c.in_ok-turn.ensures.acts K ended are1 h1).made) in
    let p12 = within_then one two a b d w1 l1 p1 p2 in
    let l12 : a.clock ≤ d.clock = omega (arith, l1, c.turn.ensures.call.takes.later) in
    let p3 = (c.put_frame-2.ensures.acts K turned are2 h2).between in
    record {
      made = subst (λ (l : List Act). HasMade l a e) (sym acts) (made_then (one ++ two) three a d e w12 ((c.in_ok-put_frame-2.ensures.acts K turned are2 h2).made));
      broken_off = search rules;
      between = subst (λ (l : List Act). HasKeptTo l a e) (sym acts) (within_then (one ++ two) three a d e w12 l12 p12 p3);
    }

pub returns-then-has_room-clause-file : goal.returns-then-has_room-clause-file
returns-then-has_room-clause-file g c K f s are honest next long =
    let view = g.D.Disk.view in
    let old = c.args.self.now.places in
    let sp = c.args.spelling.now in
    let start = c.args.start.now in
    let bytes = c.args.frame.now in
    let a = view c.args.self.now.disk in
    subst (λ q. AreOf K q c.put_frame.new.self.places) (sym (there_file K f s sp start bytes old are next (c.has_room.ensures.0 c.if-has_room.true))) (c.in_ok-put_frame.ensures.file K f are next long)

pub returns-clause-file : goal.returns-clause-file
returns-clause-file g c K f s are honest next long =
    let view = g.D.Disk.view in
    let old = c.args.self.now.places in
    let sp = c.args.spelling.now in
    let start = c.args.start.now in
    let bytes = c.args.frame.now in
    let a = view c.args.self.now.disk in
    let are1 = c.in_ok-end_checkpoint.ensures.file K f are honest in
    let are2 = c.in_ok-turn.ensures.file K (ended_file K f) are1 s in
    subst (λ q. AreOf K q c.put_frame-2.new.self.places) (sym (full_file K f s sp start bytes old are next (λ room. false≢true (sym c.if-has_room.false ∙ c.has_room.ensures.1 room)))) (c.in_ok-put_frame-2.ensures.file K (turned_file K (ended_file K f) s) are2 next long)

pub returns-then-has_room-clause-place : goal.returns-then-has_room-clause-place
returns-then-has_room-clause-place g c = let there = c.has_room.ensures.0 c.if-has_room.true in record {
  takes = record {
    room = λ _. c.in_ok-put_frame.ensures.place.moved;
    full = λ none. absurd (none there);
  };
  there = λ _. there;
  full = λ turned. absurd (false≢true turned);
}

pub returns-clause-place : goal.returns-clause-place
returns-clause-place g c =
    let turned = c.in_ok-turn.ensures.place.moved in
    let moved = c.in_ok-put_frame-2.ensures.place.moved in
    let parts = c.put_frame-2.ensures.call.parts in
    let none : ¬ HasRoom (length c.args.frame.now) c.args.self.now.places = λ room. false≢true (sym c.if-has_room.false ∙ c.has_room.ensures.1 room) in
    record {
      takes = record {
        room = λ room. absurd (none room);
        full = λ _. record {
          pending = moved.checkpoint ∙ turned.pending;
          gate = omega (arith, moved.gate, moved.end, ap (λ (z : Sizes). z.segment) parts, turned.empty);
        };
      };
      there = λ still. absurd (false≢true (sym still));
      full = λ _. none;
    }

pub returns-then-self-clause-commits : goal.returns-then-self-clause-commits
returns-then-self-clause-commits g c K laws h p s holds reads begins body t pending one =
    record {
      holds = search rules;
      keeps = λ from all run. keeps_none K laws h (g.D.Disk.view c.args.self.now.disk) from all (GATE_OPEN ∷ body);
      acknowledged = search rules;
    }

pub returns-in_err-put_frame-clause-call : goal.returns-in_err-put_frame-clause-call
returns-in_err-put_frame-clause-call g c =
    let call = c.put_frame.ensures.call in
    let old = c.args.self.now.places in
    let four : append_calls (length c.args.frame.now) old ≡ 4 = cond-true _ _ _ (lt-ltb _ _ (c.has_room.ensures.0 c.if-has_room.true)) in
    record {
      works = works_handed _ _ _ _ c.put_frame.result c.from_residual.result _ c.in_err-put_frame.was c.from_residual.ensures.1 call.works;
      takes = record {
        ok = search rules;
        later = call.takes.later;
        at_most = omega (arith, call.takes.at_most, four);
        no_fewer = call.takes.no_fewer;
      };
      honest = call.honest;
      roomy = λ is. call.roomy (fault_back _ c.put_frame.result _ NoRoom c.in_err-put_frame.was c.from_residual.ensures.1 is);
      broken = λ is. call.broken (fault_back _ c.put_frame.result _ Broken c.in_err-put_frame.was c.from_residual.ensures.1 is);
      parts = call.parts;
    }
