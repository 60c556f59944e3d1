use Rattle.std.proofs.Common.{◌≡◌, map, ◌+◌, ◌++◌, ◌∷◌, [], ℕ, List, length, refl, sym, ◌∙◌, ap, arith, subst, rules}
use Rattle.std.specs.Prelude.{Some}
use Rattle.pfx_disk.specs.declared.gates.TheConstants.{GATE_OPEN}
use Rattle.pfx_record_redo.specs.Applying.{applied}
use Rattle.pfx_store_format.specs.Format.{format}
use Rattle.pfx_store_format.specs.Frames.{state_after}
use Rattle.pfx_store_format.proofs.Keeping.{format_laws}
use Rattle.pfx_record.specs.Batches.{PlainBatch, batch_bytes, batch_of}
use Rattle.pfx_record.specs.Numbers.{number_bytes}
use Rattle.pfx_record.specs.Records.{plain}
use Rattle.pfx_store_file.specs.Holding.{IsStart, KeepsAll, Survives}
use Rattle.pfx_store_file.specs.Tending.{TakesFrame, append_calls}
use Rattle.pfx_store_file.specs.declared.faults.StoreFault.TheVariants.{Device, NoRoom}
use Rattle.pfx_store_file.proofs.Calling.{fault_back, works_handed}
use Rattle.pfx_store.specs.Files.{start_of, behind_of}
use Rattle.pfx_store.specs.Standing.{Stands}
use Rattle.pfx_store.specs.Working.{SpellsTurn}
use Rattle.pfx_store.proofs.Appends.{batch_leads, coming_right, frame_inside, frame_room}
use Rattle.pfx_store.proofs.Behinds.{behind_len, behind_some}
use Rattle.pfx_store.proofs.Counts.{not_ok, takes_told, works_so}
use Rattle.pfx_store.proofs.Filing.{behind_same, has_spelled, append_made, append_broken, append_within, append_file}
use Rattle.pfx_store.proofs.Standings.{none_on_fault, stands_appended}
use Rattle.pfx_store.proofs.journal.Journal.append.Goals as goal

pub returns-in_err-turned-clause-stands : goal.returns-in_err-turned-clause-stands
returns-in_err-turned-clause-stands g c = record {
  goes_on = λ stands. none_on_fault _ _ c.from_residual.result c.from_residual.ensures.1;
  commits = λ stands.
      let K = g.J.Job.kind in
      let L = g.met.J.Job.laws in
      let V = g.D.Disk.view in
      let old = c.args.self.now in
      let b : PlainBatch g.row.J.Denot = batch_of c.args.batch.now.first c.args.batch.now.records.items in
      let standing : Stands K old.file.places old.state c.deref.result.now (V old.file.disk) = subst (λ (l : List ℕ). Stands K old.file.places old.state l (V old.file.disk)) (sym c.deref.ensures.value) stands in
      let body = c.behind_gate.ensures.0 in
      let opens : batch_bytes K b ≡ GATE_OPEN ∷ body = c.behind_gate.ensures.1 in
      let begins : IsStart (format K) (old.state.number + 1) c.start_behind-start.result = record { long = c.start_behind-start.ensures.long; number = c.start_behind-start.ensures.number ∙ ap (λ n. n + 1) c.number.ensures.number; closed = c.start_behind-start.ensures.closed } in
      let right = coming_right K L old.state c.args.batch.now.workers c.args.batch.now.real b c.args.renewal c.requires.next in
      let leads : state_after K old.state (GATE_OPEN ∷ body) ≡ Some right.0 = subst (λ (f : List ℕ). state_after K old.state f ≡ Some right.0) opens (batch_leads K L old.state c.args.batch.now.workers c.args.batch.now.real b right.0 c.args.renewal c.args.batch.now.fits c.requires.next right.1) in
      let a = V old.file.disk in
      let e = V c.append_or_turn.new.self.disk in
      record {
        keeps = λ start all replays. subst (λ (f : List ℕ). KeepsAll (format K) start all (all ++ f ∷ []) a e) (sym opens)
            ((c.append_or_turn.ensures.commits (format K) (format_laws K L) standing.header standing.parts old.state standing.holds standing.middle begins body right.0 c.behind_gate.ensures.2 leads).keeps start all replays);
        acknowledged = λ start all replays. none_on_fault _ _ c.from_residual.result c.from_residual.ensures.1;
      };
}

pub returns-clause-stands : goal.returns-clause-stands
returns-clause-stands g c = record {
  goes_on = λ stands.
      let K = g.J.Job.kind in
      let L = g.met.J.Job.laws in
      let V = g.D.Disk.view in
      let old = c.args.self.now in
      let b : PlainBatch g.row.J.Denot = batch_of c.args.batch.now.first c.args.batch.now.records.items in
      let standing : Stands K old.file.places old.state c.deref.result.now (V old.file.disk) = subst (λ (l : List ℕ). Stands K old.file.places old.state l (V old.file.disk)) (sym c.deref.ensures.value) stands in
      let body = c.behind_gate.ensures.0 in
      let opens : batch_bytes K b ≡ GATE_OPEN ∷ body = c.behind_gate.ensures.1 in
      let begins : IsStart (format K) (old.state.number + 1) c.start_behind-start.result = record { long = c.start_behind-start.ensures.long; number = c.start_behind-start.ensures.number ∙ ap (λ n. n + 1) c.number.ensures.number; closed = c.start_behind-start.ensures.closed } in
      let right : applied K old.state b.records ≡ Some c.take_over.new.state = c.take_over.ensures.taken in
      let leads : state_after K old.state (GATE_OPEN ∷ body) ≡ Some c.take_over.new.state = subst (λ (f : List ℕ). state_after K old.state f ≡ Some c.take_over.new.state) opens (batch_leads K L old.state c.args.batch.now.workers c.args.batch.now.real b c.take_over.new.state c.args.renewal c.args.batch.now.fits c.requires.next right) in
      let spells = subst (λ (l : List ℕ). SpellsTurn K c.in_ok-turned.turned old.state l c.encode_turn.new.spelled.items) (sym c.deref.ensures.value) c.encode_turn.ensures in
      stands_appended K L (length c.behind_gate.result.now) old.file.places c.append_or_turn.new.self.places old.state c.take_over.new.state c.deref.result.now c.encode_turn.new.spelled.items (GATE_OPEN ∷ body) (V old.file.disk) (V c.append_or_turn.new.self.disk)
      c.in_ok-turned.turned standing c.number.ensures.state c.take_over.ensures.of c.in_ok-turned.ensures.place spells
      ((c.in_ok-turned.ensures.commits (format K) (format_laws K L) standing.header standing.parts old.state standing.holds standing.middle begins body c.take_over.new.state c.behind_gate.ensures.2 leads).holds);
  commits = λ stands.
      let K = g.J.Job.kind in
      let L = g.met.J.Job.laws in
      let V = g.D.Disk.view in
      let old = c.args.self.now in
      let b : PlainBatch g.row.J.Denot = batch_of c.args.batch.now.first c.args.batch.now.records.items in
      let standing : Stands K old.file.places old.state c.deref.result.now (V old.file.disk) = subst (λ (l : List ℕ). Stands K old.file.places old.state l (V old.file.disk)) (sym c.deref.ensures.value) stands in
      let body = c.behind_gate.ensures.0 in
      let opens : batch_bytes K b ≡ GATE_OPEN ∷ body = c.behind_gate.ensures.1 in
      let begins : IsStart (format K) (old.state.number + 1) c.start_behind-start.result = record { long = c.start_behind-start.ensures.long; number = c.start_behind-start.ensures.number ∙ ap (λ n. n + 1) c.number.ensures.number; closed = c.start_behind-start.ensures.closed } in
      let right = coming_right K L old.state c.args.batch.now.workers c.args.batch.now.real b c.args.renewal c.requires.next in
      let leads : state_after K old.state (GATE_OPEN ∷ body) ≡ Some right.0 = subst (λ (f : List ℕ). state_after K old.state f ≡ Some right.0) opens (batch_leads K L old.state c.args.batch.now.workers c.args.batch.now.real b right.0 c.args.renewal c.args.batch.now.fits c.requires.next right.1) in
      let a = V old.file.disk in
      let e = V c.append_or_turn.new.self.disk in
      record {
        keeps = λ start all replays. subst (λ (f : List ℕ). KeepsAll (format K) start all (all ++ f ∷ []) a e) (sym opens)
            ((c.append_or_turn.ensures.commits (format K) (format_laws K L) standing.header standing.parts old.state standing.holds standing.middle begins body right.0 c.behind_gate.ensures.2 leads).keeps start all replays);
        acknowledged = λ start all replays.
            subst (λ (f : List ℕ). (image : List ℕ) → e.since e.clock image → Survives (format K) start (all ++ f ∷ []) (length all + 1) image) (sym opens)
            ((c.in_ok-turned.ensures.commits (format K) (format_laws K L) standing.header standing.parts old.state standing.holds standing.middle begins body right.0 c.behind_gate.ensures.2 leads).acknowledged start all replays);
      };
}

pub returns-in_err-turned-clause-call : goal.returns-in_err-turned-clause-call
returns-in_err-turned-clause-call g c =
    let call = c.append_or_turn.ensures.call in
    let places = c.args.self.now.file.places in
    let same = ap (λ (n : ℕ). append_calls n places) (behind_len _ _ c.behind_gate.ensures) in
    record {
      works = works_handed _ _ _ _ c.append_or_turn.result c.from_residual.result _ c.in_err-turned.was c.from_residual.ensures.1 call.works;
      takes = record {
        ok = λ is. not_ok c.from_residual.result _ c.from_residual.ensures.1 is;
        later = call.takes.later;
        at_most = omega (arith, call.takes.at_most, same);
        no_fewer = call.takes.no_fewer;
      };
      honest = call.honest;
      roomy = λ is. call.roomy (fault_back _ c.append_or_turn.result _ NoRoom c.in_err-turned.was c.from_residual.ensures.1 is);
      broken = search rules;
      parts = call.parts;
    }

pub returns-clause-call : goal.returns-clause-call
returns-clause-call g c =
    let call = c.in_ok-turned.ensures.call in
    let places = c.args.self.now.file.places in
    let same = ap (λ (n : ℕ). append_calls n places) (behind_len _ _ c.behind_gate.ensures) in
    record {
      works = works_so _ _ _ _ c.in_ok-turned.turned _ call.works;
      takes = takes_told _ _ _ _ _ _ same (λ _. refl) call.takes;
      honest = call.honest;
      roomy = search rules;
      broken = search rules;
      parts = call.parts;
    }

pub returns-clause-moves : goal.returns-clause-moves
returns-clause-moves g c = record {
  state = search rules;
  place = subst (λ (n : ℕ). TakesFrame n c.args.self.now.file.places c.append_or_turn.new.self.places) (behind_len _ _ c.behind_gate.ensures) c.in_ok-turned.ensures.place.takes;
  mark = search rules;
}

pub returns-in_err-turned-clause-acts : goal.returns-in_err-turned-clause-acts
returns-in_err-turned-clause-acts g c =
    let K = g.J.Job.kind in
    let V = g.D.Disk.view in
    let old = c.args.self.now in
    let s = old.state in
    let batch : PlainBatch g.row.J.Denot = batch_of c.args.batch.now.first c.args.batch.now.records.items in
    let frame = batch_bytes K batch in
    let start = c.start_behind-start.result in
    let starts : start ≡ start_of s = c.start_behind-start.ensures.bytes ∙ ap (λ k. number_bytes 8 (k + 1) ++ 0 ∷ []) c.number.ensures.number in
    let bytes = c.behind_gate.result.now in
    let behind : bytes ≡ behind_of frame = sym (behind_same frame bytes c.behind_gate.ensures) in
    let a = V old.file.disk in
    let e = V c.append_or_turn.new.self.disk in
    let spelled = c.deref.result.now in
    record {
      made = λ f has honest. none_on_fault _ _ c.from_residual.result c.from_residual.ensures.1;
      broken_off = λ f has honest is. append_broken K f old.file.places spelled (has_spelled K f old.file.places spelled old.spelled.items c.deref.ensures.value has) s frame start bytes starts behind a e
          ((c.append_or_turn.ensures.acts (format K) f s has.are honest).broken_off (fault_back _ c.append_or_turn.result _ Device c.in_err-turned.was c.from_residual.ensures.1 is));
      between = λ f has honest. append_within K f old.file.places spelled (has_spelled K f old.file.places spelled old.spelled.items c.deref.ensures.value has) s frame start bytes starts behind a e
          ((c.append_or_turn.ensures.acts (format K) f s has.are honest).between);
      file = λ f has honest. none_on_fault _ _ c.from_residual.result c.from_residual.ensures.1;
    }

pub returns-clause-acts : goal.returns-clause-acts
returns-clause-acts g c =
    let K = g.J.Job.kind in
    let V = g.D.Disk.view in
    let old = c.args.self.now in
    let s = old.state in
    let batch : PlainBatch g.row.J.Denot = batch_of c.args.batch.now.first c.args.batch.now.records.items in
    let frame = batch_bytes K batch in
    let start = c.start_behind-start.result in
    let starts : start ≡ start_of s = c.start_behind-start.ensures.bytes ∙ ap (λ k. number_bytes 8 (k + 1) ++ 0 ∷ []) c.number.ensures.number in
    let bytes = c.behind_gate.result.now in
    let behind : bytes ≡ behind_of frame = sym (behind_same frame bytes c.behind_gate.ensures) in
    let a = V old.file.disk in
    let e = V c.append_or_turn.new.self.disk in
    let spelled = c.deref.result.now in
    record {
      made = λ f has honest. append_made K f old.file.places spelled (has_spelled K f old.file.places spelled old.spelled.items c.deref.ensures.value has) s frame start bytes starts behind a e
          ((c.in_ok-turned.ensures.acts (format K) f s has.are honest).made);
      broken_off = search rules;
      between = λ f has honest. append_within K f old.file.places spelled (has_spelled K f old.file.places spelled old.spelled.items c.deref.ensures.value has) s frame start bytes starts behind a e
          ((c.append_or_turn.ensures.acts (format K) f s has.are honest).between);
      file = λ f has honest. append_file K f old.file.places old.spelled.items has s frame start bytes starts behind c.encode_turn.new.spelled.items
          c.in_ok-turned.turned c.append_or_turn.new.self.places c.in_ok-turned.ensures.place c.encode_turn.ensures
          (c.in_ok-turned.ensures.file (format K) f s has.are honest frame (sym (behind_len _ _ c.behind_gate.ensures)));
    }

pub append_or_turn-requires-clause-frame : goal.append_or_turn-requires-clause-frame
append_or_turn-requires-clause-frame g c =
    let K = g.J.Job.kind in
    let L = g.met.J.Job.laws in
    let batch = c.args.batch.now in
    let old = c.args.self.now in
    let inside = frame_inside K L old.state batch.workers batch.real (batch_of batch.first batch.records.items) c.args.renewal batch.fits c.requires.next old.fits in
    let long = behind_len _ _ c.behind_gate.ensures in
    (behind_some _ _ c.behind_gate.ensures, omega (arith, inside, long, old.inside))

pub encode_frame-requires : goal.encode_frame-requires
encode_frame-requires g c =
    let K = g.J.Job.kind in
    let L = g.met.J.Job.laws in
    let batch = c.args.batch.now in
    let old = c.args.self.now in
    frame_room K L old.state batch.workers batch.real (batch_of batch.first batch.records.items) c.args.renewal batch.fits c.requires.next _ old.room
