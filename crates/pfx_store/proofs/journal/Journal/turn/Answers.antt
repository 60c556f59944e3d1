use Rattle.std.proofs.Common.{◌+◌, ◌∙◌, ap, sym, true, refl, rules}
use Rattle.std.proofs.lemmas.Bool.{true≢false}
use Rattle.pfx_store_format.specs.Format.{format}
use Rattle.pfx_store_format.proofs.Keeping.{format_laws}
use Rattle.pfx_store_file.specs.Holding.{IsStart}
use Rattle.pfx_store.proofs.Standings.{stands_turned}
use Rattle.std.proofs.Common.{◌≡◌, ◌++◌, ◌∷◌, []}
use Rattle.pfx_record.specs.Numbers.{number_bytes}
use Rattle.pfx_store_file.specs.declared.faults.StoreFault.TheVariants.{Device, Broken, NoRoom}
use Rattle.pfx_store_file.proofs.Calling.{fault_back, works_handed}
use Rattle.pfx_store.proofs.Counts.{no_fault, not_ok, six_calls, takes_answered, takes_told, works_answered}
use Rattle.pfx_store.specs.Files.{start_of}
use Rattle.pfx_store.proofs.Filing.{turn_made, turn_broken, turn_within}
use Rattle.pfx_store.proofs.journal.Journal.turn.Goals as goal

pub returns-in_err-turn-clause-stands : goal.returns-in_err-turn-clause-stands
returns-in_err-turn-clause-stands g c =
    let K = g.J.Job.kind in
    let s = c.args.self.now.state in
    let begins : IsStart (format K) (s.number + 1) c.start_behind-start.result = record { long = c.start_behind-start.ensures.long; number = c.start_behind-start.ensures.number ∙ ap (λ n. n + 1) c.number.ensures.number; closed = c.start_behind-start.ensures.closed } in
    record {
      state = search rules;
      goes_on = search rules;
      keeps = λ stands start all replays. (c.turn.ensures.keeps (format K) (format_laws K g.met.J.Job.laws) stands.header stands.parts s c.args.self.now.spelled.items stands.holds begins []).keeps start all replays;
    }

pub returns-clause-stands : goal.returns-clause-stands
returns-clause-stands g c =
    let K = g.J.Job.kind in
    let s = c.args.self.now.state in
    let begins : IsStart (format K) (s.number + 1) c.start_behind-start.result = record { long = c.start_behind-start.ensures.long; number = c.start_behind-start.ensures.number ∙ ap (λ n. n + 1) c.number.ensures.number; closed = c.start_behind-start.ensures.closed } in
    record {
      state = search rules;
      goes_on = λ stands. stands_turned K g.met.J.Job.laws stands.header c.turn.new.self.places stands.parts s c.encode.new.spelled.items (g.D.Disk.view c.turn.new.self.disk) c.encode.ensures.state stands.of c.encode.ensures.spelled
          ((c.in_ok-turn.ensures.keeps (format K) (format_laws K g.met.J.Job.laws) stands.header stands.parts s c.args.self.now.spelled.items stands.holds begins c.encode.new.spelled.items).holds);
      keeps = λ stands start all replays. (c.turn.ensures.keeps (format K) (format_laws K g.met.J.Job.laws) stands.header stands.parts s c.args.self.now.spelled.items stands.holds begins []).keeps start all replays;
    }

pub returns-in_err-turn-clause-call : goal.returns-in_err-turn-clause-call
returns-in_err-turn-clause-call g c =
    let old = c.args.self.now.file in
    let a = g.D.Disk.view old.disk in
    let b = g.D.Disk.view c.turn.new.self.disk in
    let six = six_calls old.places (c.can_turn.ensures.places.0 c.if-not-can_turn.false) in
    let of = c.from_residual.ensures.1 in
    let works = works_handed a b old.broken c.turn.new.self.broken c.turn.result c.from_residual.result _ c.in_err-turn.was of c.turn.ensures.call.works in
    record {
      works = works;
      takes = takes_told 6 _ a b c.turn.result c.from_residual.result six (λ ok. not_ok c.from_residual.result _ of ok) c.turn.ensures.call.takes;
      honest = c.turn.ensures.call.honest;
      roomy = λ is. c.turn.ensures.call.roomy (fault_back _ c.turn.result _ NoRoom c.in_err-turn.was of is);
      broken = λ is. absurd (true≢false (sym (works.broken.0 is) ∙ c.if-self.false));
      parts = c.turn.ensures.call.parts;
    }

pub returns-clause-call : goal.returns-clause-call
returns-clause-call g c =
    let old = c.args.self.now.file in
    let a = g.D.Disk.view old.disk in
    let b = g.D.Disk.view c.turn.new.self.disk in
    let six = six_calls old.places (c.can_turn.ensures.places.0 c.if-not-can_turn.false) in
    record {
      works = works_answered a b old.broken c.turn.new.self.broken true c.if-self.false (c.in_ok-turn.ensures.call.works.whole refl);
      takes = takes_answered 6 _ a b _ six (c.in_ok-turn.ensures.call.takes.ok refl);
      honest = c.turn.ensures.call.honest;
      roomy = λ is. no_fault true NoRoom is;
      broken = λ is. no_fault true Broken is;
      parts = c.turn.ensures.call.parts;
    }

pub returns-in_err-turn-clause-acts : goal.returns-in_err-turn-clause-acts
returns-in_err-turn-clause-acts g c =
    let K = g.J.Job.kind in
    let V = g.D.Disk.view in
    let old = c.args.self.now in
    let s = old.state in
    let start = c.start_behind-start.result in
    let starts : start ≡ start_of s = c.start_behind-start.ensures.bytes ∙ ap (λ k. number_bytes 8 (k + 1) ++ 0 ∷ []) c.number.ensures.number in
    let a = V old.file.disk in
    let b = V c.turn.new.self.disk in
    record {
      made = search rules;
      broken_off = λ f has honest is. turn_broken K f old.file.places old.spelled.items has s start starts a b ((c.turn.ensures.acts (format K) f has.are honest).broken_off (fault_back _ c.turn.result _ Device (c.in_err-turn.was) c.from_residual.ensures.1 is));
      between = λ f has honest. turn_within K f old.file.places old.spelled.items has s start starts a b ((c.turn.ensures.acts (format K) f has.are honest).between);
      file = search rules;
    }

pub returns-clause-acts : goal.returns-clause-acts
returns-clause-acts g c =
    let K = g.J.Job.kind in
    let V = g.D.Disk.view in
    let old = c.args.self.now in
    let s = old.state in
    let start = c.start_behind-start.result in
    let starts : start ≡ start_of s = c.start_behind-start.ensures.bytes ∙ ap (λ k. number_bytes 8 (k + 1) ++ 0 ∷ []) c.number.ensures.number in
    let a = V old.file.disk in
    let b = V c.turn.new.self.disk in
    record {
      made = λ f has honest is. turn_made K f old.file.places old.spelled.items has s start starts a b ((c.in_ok-turn.ensures.acts (format K) f has.are honest).made);
      broken_off = search rules;
      between = λ f has honest. turn_within K f old.file.places old.spelled.items has s start starts a b ((c.turn.ensures.acts (format K) f has.are honest).between);
      file = λ f has honest is. record { are = c.in_ok-turn.ensures.file (format g.J.Job.kind) f has.are c.args.self.now.state; spells = λ turned. c.encode.ensures.spelled };
    }
