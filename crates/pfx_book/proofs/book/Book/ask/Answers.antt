use Rattle.std.specs.Prelude.{Some, None, is_some}
use Rattle.std.specs.VecDeque.{deque_items}
use Rattle.std.proofs.Common.{◌≡◌, ℕ, List, [], ◌∷◌, ◌++◌, ◌<◌, ◌≤◌, ◌+◌, length, map, true, false, refl, sym, ap, ◌∙◌, subst, arith, inr}
use Rattle.std.proofs.lemmas.List.{map-append}
use Rattle.pfx_machine.specs.Plain.{Plain}
use Rattle.pfx_machine.specs.Steps.{state_step, happening_in}
use Rattle.pfx_machine.specs.declared.command.Command.{Command}
use Rattle.pfx_events_world.specs.Session.{asked}
use Rattle.pfx_machine.specs.Refusals.{refusal, reply}
use Rattle.pfx_record.specs.Records.{plain, Recorded}
use Rattle.pfx_book.specs.declared.note.Note.{Note}
use Rattle.pfx_book.specs.declared.note.Note.TheVariants.{Accepted, Refused}
use Rattle.pfx_book.specs.Notes.{greatest, lost_in, commands_of, refused_at}
use Rattle.pfx_book.specs.Lines.{told}
use Rattle.pfx_book.specs.declared.line.Line.{Line}
use Rattle.pfx_book.specs.Register.{Register, register, HasRoom}
use Rattle.pfx_book.specs.Lines.{IsOf}
use Rattle.pfx_book.proofs.Taking.{length_map}
use Rattle.pfx_book.specs.Calls.{entered, refused_by}
use Rattle.pfx_book.specs.Kept.{Counts, IsKept}
use Rattle.pfx_book.proofs.Notes.{free_of, greatest_more, greatest_same, lost_more}
use Rattle.pfx_book.proofs.Keeping.{outcome_is, all_taken, low}
use Rattle.pfx_book.proofs.Marking.{counts_more, fits_none}
use Rattle.pfx_book.proofs.Asking.{full_is, accepts, refuses, one_step}
use Rattle.pfx_book.proofs.Showing.{none_shown, shows_asked, shows_refused}
use Rattle.pfx_book.proofs.book.Book.ask.Goals as goal

pub push_back_reserved-requires : goal.push_back_reserved-requires
push_back_reserved-requires g c =
    let s = c.self.inside in
    let K = g.J.Job.kind in
    let B = g.B.Named.start in
    let xs = told K B [] s.history.items in
    let pend = map plain (deque_items s.pending) in
    let h = c.self.invariant.0 in
    let all = all_taken K B xs s.keeper s.passes s.state pend s.taken s.marked s.clock s.failure h in
    let mark = low K B xs s.keeper s.passes s.state pend s.taken s.marked s.clock s.failure h in
    let mapped = length_map plain (deque_items s.pending) in
    let room : length (commands_of xs) < s.marked + 64 = subst HasRoom (sym (ap (λ (v : Register g.row.J.Denot). v.session) c.self.view_is)) c.requires.ready.room in
    omega (arith, all, mark, mapped, room, c.self.invariant.3)

pub invariant_of-self-in-Refused : goal.invariant_of-self-in-Refused
invariant_of-self-in-Refused g c =
    let s = c.self.inside in
    let K = g.J.Job.kind in
    let B = g.B.Named.start in
    let xs = told K B [] s.history.items in
    let pend = map plain (deque_items s.pending) in
    let h = c.self.invariant.0 in
    let p = c.pass.invariant in
    let mine = c.pass.inside.token.1 in
    let k = c.pass.inside.token.0 in
    let full = full_is K g.met.J.Job.laws B s.history.items s.keeper s.passes s.state pend s.taken s.marked s.clock s.failure k mine h s.began c.self.invariant.2.first c.number.result c.number.ensures.number in
    let t = c.in-Refused.ensures in
    let n = c.number-in-Refused.result in
    let copy = c.in-Refused.copy in
    let fault = c.in-Refused.fault in
    let line = c.refused_line.result in
    let e : Note g.row.J.Denot = Refused n copy fault in
    let of_line = subst (λ q. IsOf q true copy line) p.0 c.refused_line.ensures in
    let r = refuses K g.met.J.Job.laws B s.history.items s.keeper s.passes s.state pend s.taken s.marked s.clock s.failure k mine h c.note.ensures.known (omega (arith, p.1))
    c.args.command copy fault n c.try_command.new.state line _ full t.0 t.1 t.2 c.number-in-Refused.ensures.number of_line in
    let items = c.push_reserved.ensures.items ∙ ap (λ l. l ++ line ∷ []) c.make_room.ensures.items in
    let low_enough : s.taken ≤ length (commands_of xs) = (let all = all_taken K B xs s.keeper s.passes s.state pend s.taken s.marked s.clock s.failure h in omega (arith, all)) in
    let counts = counts_more K B xs k e s.began s.taken s.width low_enough c.self.invariant.2 in
    let none = none_shown K s.slot (ap (λ (v : Register g.row.J.Denot). v.session.opened) c.self.view_is ∙ c.requires.ready.none_open) in (
      subst (λ (q : List (List (Note g.row.J.Denot)) × List (Line g.row.J.Denot)). IsKept K B (told K B [] q.1) q.0 s.passes c.try_command.new.state pend s.taken s.marked s.clock s.failure)
          (λ i. (sym c.note.ensures.keeper i, sym items i)) r.1,
      fits_none K c.try_command.new.state B.number s.slot s.marked _ _ none,
      subst (λ (l : List (Line g.row.J.Denot)). Counts K B (commands_of (told K B [] l)) s.began s.taken s.width) (sym items) (subst (λ l. Counts K B (commands_of l) s.began s.taken s.width) (sym r.0) counts),
      c.self.invariant.3,
    )

pub invariant_of-pass : goal.invariant_of-pass
invariant_of-pass g c =
    let p = c.pass.invariant in
    let mine = c.pass.inside.token.1 in
    let t = c.note.ensures.token in
    let e : Note g.row.J.Denot = Refused c.number-in-Refused.result c.in-Refused.copy c.in-Refused.fault in (
      p.0 ∙ sym (ap (λ x. x.0) t),
      subst (λ (x : ℕ × List (Note g.row.J.Denot)). 0 < x.0) (sym t) p.1,
      p.2 ∙ sym (ap (λ x. greatest x.1) t ∙ greatest_same mine e refl),
      p.3 ∙ sym (ap (λ x. lost_in x.1) t ∙ lost_more mine e refl),
    )

pub returns-in-Refused-clause-err : goal.returns-in-Refused-clause-err
returns-in-Refused-clause-err g c =
    let s = c.self.inside in
    let K = g.J.Job.kind in
    let B = g.B.Named.start in
    let xs = told K B [] s.history.items in
    let pend = map plain (deque_items s.pending) in
    let h = c.self.invariant.0 in
    let p = c.pass.invariant in
    let mine = c.pass.inside.token.1 in
    let k = c.pass.inside.token.0 in
    let full = full_is K g.met.J.Job.laws B s.history.items s.keeper s.passes s.state pend s.taken s.marked s.clock s.failure k mine h s.began c.self.invariant.2.first c.number.result c.number.ensures.number in
    let t = c.in-Refused.ensures in
    let n = c.number-in-Refused.result in
    let copy = c.in-Refused.copy in
    let fault = c.in-Refused.fault in
    let line = c.refused_line.result in
    let e : Note g.row.J.Denot = Refused n copy fault in
    let of_line = subst (λ q. IsOf q true copy line) p.0 c.refused_line.ensures in
    let r = refuses K g.met.J.Job.laws B s.history.items s.keeper s.passes s.state pend s.taken s.marked s.clock s.failure k mine h c.note.ensures.known (omega (arith, p.1))
    c.args.command copy fault n c.try_command.new.state line _ full t.0 t.1 t.2 c.number-in-Refused.ensures.number of_line in
    let items = c.push_reserved.ensures.items ∙ ap (λ l. l ++ line ∷ []) c.make_room.ensures.items in
    let v = c.self.view_is in
    let pv = c.pass.view_is in
    let u = c.try_command.new.state in
    let num : n ≡ c.args.self.now.session.state.number =
    c.number-in-Refused.ensures.number ∙ ap (λ (z : Plain g.row.J.Denot). z.number) t.2 ∙ ap (λ (w : Register g.row.J.Denot). w.session.state.number) v in
    let refused = subst (λ (w : Register g.row.J.Denot). refused_by K w.session c.args.command ≡ Some fault) v (ap (λ b. refused_at b K s.state c.args.command) (sym full) ∙ t.1) in
    let shows = shows_refused K xs s.state s.slot s.taken s.marked s.clock s.passes s.opener s.failure s.shut k n copy fault u t.2 in
    inr (
      refused,
      ap (λ l. register K (told K B [] l) u s.slot s.taken s.marked s.clock s.passes s.opener s.failure s.shut) items
          ∙ ap (λ l. register K l u s.slot s.taken s.marked s.clock s.passes s.opener s.failure s.shut) r.0
          ∙ shows ∙ (λ i. entered (pv i).0 (Refused (num i) (t.0 i) fault) (v i).session (v i)),
      c.note.ensures.token ∙ (λ i. ((pv i).0, (pv i).1 ++ Refused (num i) (t.0 i) fault ∷ [])),
    )

pub invariant_of-self-in-Done : goal.invariant_of-self-in-Done
invariant_of-self-in-Done g c =
    let s = c.self.inside in
    let K = g.J.Job.kind in
    let L = g.met.J.Job.laws in
    let B = g.B.Named.start in
    let xs = told K B [] s.history.items in
    let pend = map plain (deque_items s.pending) in
    let h = c.self.invariant.0 in
    let p = c.pass.invariant in
    let mine = c.pass.inside.token.1 in
    let k = c.pass.inside.token.0 in
    let full = full_is K L B s.history.items s.keeper s.passes s.state pend s.taken s.marked s.clock s.failure k mine h s.began c.self.invariant.2.first c.number.result c.number.ensures.number in
    let t = c.in-Done.ensures in
    let n = c.number-number.result in
    let copy = c.in-Done.copy in
    let said = c.copy_reply.result in
    let line = c.in-Some.line in
    let u = c.try_command.new.state in
    let e : Note g.row.J.Denot = Accepted n copy said in
    let of_line = subst (λ (q : ℕ × Command g.row.J.Denot). IsOf q.0 false q.1 line) (λ i. (p.0 i, sym t.0 i)) c.in-Some.ensures in
    let room : length (commands_of xs) < s.marked + 64 = subst HasRoom (sym (ap (λ (v : Register g.row.J.Denot). v.session) c.self.view_is)) c.requires.ready.room in
    let here = outcome_is K B xs s.keeper s.passes s.state pend s.taken s.marked s.clock s.failure h in
    let a = accepts K L B s.history.items s.keeper s.passes s.state pend s.taken s.marked s.clock s.failure k mine h c.note-in-Done.ensures.known (omega (arith, p.1))
    c.args.command copy said n u (plain c.in-Done.entry) line _ full t.0 t.1 (c.copy_reply.ensures ∙ t.2) t.3 (t.4 B (commands_of xs) here) c.number-number.ensures.number of_line room in
    let items = c.push_reserved-in-Done.ensures.items ∙ ap (λ l. l ++ line ∷ []) c.make_room.ensures.items in
    let queue = ap (map plain) c.push_back_reserved.ensures.items ∙ map-append plain (deque_items s.pending) (c.in-Done.entry ∷ []) in
    let low_enough : s.taken ≤ length (commands_of xs) = (let all = all_taken K B xs s.keeper s.passes s.state pend s.taken s.marked s.clock s.failure h in omega (arith, all)) in
    let counts = counts_more K B xs k e s.began s.taken s.width low_enough c.self.invariant.2 in
    let none = none_shown K s.slot (ap (λ (v : Register g.row.J.Denot). v.session.opened) c.self.view_is ∙ c.requires.ready.none_open) in (
      subst (λ (q : List (List (Note g.row.J.Denot)) × List (Line g.row.J.Denot) × List (Recorded g.row.J.Denot)). IsKept K B (told K B [] q.1) q.0 s.passes u q.2 s.taken s.marked s.clock s.failure)
          (λ i. (sym c.note-in-Done.ensures.keeper i, sym items i, sym queue i)) a.1,
      fits_none K u B.number s.slot s.marked _ _ none,
      subst (λ (l : List (Line g.row.J.Denot)). Counts K B (commands_of (told K B [] l)) s.began s.taken s.width) (sym items) (subst (λ l. Counts K B (commands_of l) s.began s.taken s.width) (sym a.0) counts),
      omega (arith, c.self.invariant.3, c.push_back_reserved.ensures.capacity),
    )

pub invariant_of-pass-in-Done : goal.invariant_of-pass-in-Done
invariant_of-pass-in-Done g c =
    let s = c.self.inside in
    let K = g.J.Job.kind in
    let L = g.met.J.Job.laws in
    let B = g.B.Named.start in
    let xs = told K B [] s.history.items in
    let pend = map plain (deque_items s.pending) in
    let h = c.self.invariant.0 in
    let p = c.pass.invariant in
    let mine = c.pass.inside.token.1 in
    let k = c.pass.inside.token.0 in
    let full = full_is K L B s.history.items s.keeper s.passes s.state pend s.taken s.marked s.clock s.failure k mine h s.began c.self.invariant.2.first c.number.result c.number.ensures.number in
    let t = c.in-Done.ensures in
    let n = c.number-number.result in
    let copy = c.in-Done.copy in
    let said = c.copy_reply.result in
    let line = c.in-Some.line in
    let u = c.try_command.new.state in
    let e : Note g.row.J.Denot = Accepted n copy said in
    let of_line = subst (λ (q : ℕ × Command g.row.J.Denot). IsOf q.0 false q.1 line) (λ i. (p.0 i, sym t.0 i)) c.in-Some.ensures in
    let room : length (commands_of xs) < s.marked + 64 = subst HasRoom (sym (ap (λ (v : Register g.row.J.Denot). v.session) c.self.view_is)) c.requires.ready.room in
    let here = outcome_is K B xs s.keeper s.passes s.state pend s.taken s.marked s.clock s.failure h in
    let a = accepts K L B s.history.items s.keeper s.passes s.state pend s.taken s.marked s.clock s.failure k mine h c.note-in-Done.ensures.known (omega (arith, p.1))
    c.args.command copy said n u (plain c.in-Done.entry) line _ full t.0 t.1 (c.copy_reply.ensures ∙ t.2) t.3 (t.4 B (commands_of xs) here) c.number-number.ensures.number of_line room in
    let z = c.note-in-Done.ensures.token in
    let m : greatest (mine ++ e ∷ []) ≡ n = greatest_more mine e ∙ omega (arith, a.2) in (
      p.0 ∙ sym (ap (λ x. x.0) z),
      subst (λ (x : ℕ × List (Note g.row.J.Denot)). 0 < x.0) (sym z) p.1,
      sym (ap (λ x. greatest x.1) z ∙ m),
      p.3 ∙ sym (ap (λ x. lost_in x.1) z ∙ lost_more mine e refl),
    )

pub returns-in-Done-clause-may : goal.returns-in-Done-clause-may
returns-in-Done-clause-may g c =
    let s = c.self.inside in
    let K = g.J.Job.kind in
    let v = c.self.view_is in
    let free : refusal K s.state c.args.command ≡ None = free_of _ K s.state c.args.command c.in-Done.ensures.1 in (
      c.requires.quick,
      c.requires.ready.none_open,
      sym (ap (λ (w : Register g.row.J.Denot). w.session.halted) v) ∙ ap is_some (ap (λ (w : Register g.row.J.Denot). w.failure) v ∙ c.requires.ready.goes_on),
      subst (λ (w : Register g.row.J.Denot). refusal K w.session.state c.args.command ≡ None) v free,
    )

pub returns-in-Done-clause-accepted : goal.returns-in-Done-clause-accepted
returns-in-Done-clause-accepted g c =
    let s = c.self.inside in
    let K = g.J.Job.kind in
    let L = g.met.J.Job.laws in
    let B = g.B.Named.start in
    let xs = told K B [] s.history.items in
    let pend = map plain (deque_items s.pending) in
    let h = c.self.invariant.0 in
    let p = c.pass.invariant in
    let mine = c.pass.inside.token.1 in
    let k = c.pass.inside.token.0 in
    let full = full_is K L B s.history.items s.keeper s.passes s.state pend s.taken s.marked s.clock s.failure k mine h s.began c.self.invariant.2.first c.number.result c.number.ensures.number in
    let t = c.in-Done.ensures in
    let n = c.number-number.result in
    let copy = c.in-Done.copy in
    let said = c.copy_reply.result in
    let line = c.in-Some.line in
    let u = c.try_command.new.state in
    let e : Note g.row.J.Denot = Accepted n copy said in
    let of_line = subst (λ (q : ℕ × Command g.row.J.Denot). IsOf q.0 false q.1 line) (λ i. (p.0 i, sym t.0 i)) c.in-Some.ensures in
    let room : length (commands_of xs) < s.marked + 64 = subst HasRoom (sym (ap (λ (v : Register g.row.J.Denot). v.session) c.self.view_is)) c.requires.ready.room in
    let here = outcome_is K B xs s.keeper s.passes s.state pend s.taken s.marked s.clock s.failure h in
    let a = accepts K L B s.history.items s.keeper s.passes s.state pend s.taken s.marked s.clock s.failure k mine h c.note-in-Done.ensures.known (omega (arith, p.1))
    c.args.command copy said n u (plain c.in-Done.entry) line _ full t.0 t.1 (c.copy_reply.ensures ∙ t.2) t.3 (t.4 B (commands_of xs) here) c.number-number.ensures.number of_line room in
    let items = c.push_reserved-in-Done.ensures.items ∙ ap (λ l. l ++ line ∷ []) c.make_room.ensures.items in
    let v = c.self.view_is in
    let pv = c.pass.view_is in
    let step = one_step K L s.state u c.args.command t.4 ∙ ap (λ d. state_step K s.state (happening_in s.state d)) (sym t.0) in
    let shows = shows_asked K xs s.state s.slot s.taken s.marked s.clock s.passes s.opener s.failure s.shut k n copy said u step in
    record {
      number = a.3 ∙ ap (λ (w : Register g.row.J.Denot). w.session.state.number + 1) v;
      reply = t.2 ∙ ap (λ (w : Register g.row.J.Denot). reply w.session.state c.args.command) v;
      rises = subst (λ (z : ℕ × List (Note g.row.J.Denot)). greatest z.1 < n) pv a.2;
      event = ap (λ l. register K (told K B [] l) u s.slot s.taken s.marked s.clock s.passes s.opener s.failure s.shut) items
          ∙ ap (λ l. register K l u s.slot s.taken s.marked s.clock s.passes s.opener s.failure s.shut) a.0
          ∙ shows ∙ (λ i. entered (pv i).0 (Accepted n (t.0 i) (c.copy_reply.ensures i)) (asked K (t.0 i) (v i).session) (v i));
      noted = c.note-in-Done.ensures.token ∙ (λ i. ((pv i).0, (pv i).1 ++ Accepted n (t.0 i) (c.copy_reply.ensures i) ∷ []));
    }
