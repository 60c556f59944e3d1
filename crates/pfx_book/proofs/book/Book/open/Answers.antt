use Rattle.std.specs.Prelude.{vec_capacity}
use Rattle.std.specs.VecDeque.{deque_items}
use Rattle.std.proofs.Common.{◌≡◌, ℕ, List, [], ◌∷◌, ◌++◌, ◌<◌, ◌≤◌, ◌+◌, ◌^◌, length, map, Some, true, refl, sym, ap, ◌∙◌, subst, arith, inr}
use Rattle.pfx_machine.specs.Plain.{Plain}
use Rattle.pfx_machine.specs.declared.command.Command.TheVariants as command
use Rattle.pfx_record.specs.Records.{plain}
use Rattle.pfx_events_world.specs.Session.{begun}
use Rattle.pfx_book_slot.specs.Dealt.{StandsAt, Answers}
use Rattle.pfx_book.specs.declared.note.Note.{Note}
use Rattle.pfx_book.specs.declared.note.Note.TheVariants.{Refused}
use Rattle.pfx_book.specs.declared.line.Line.{Line}
use Rattle.pfx_book.specs.declared.line.Line.TheVariants as line
use Rattle.pfx_book.specs.Notes.{greatest, lost_in, commands_of, refused_at}
use Rattle.pfx_book.specs.Lines.{told}
use Rattle.pfx_book.specs.Register.{Register, register, HasRoom}
use Rattle.pfx_book.specs.Calls.{entered, refused_by}
use Rattle.pfx_book.specs.Kept.{Counts, IsKept}
use Rattle.pfx_book.proofs.Notes.{greatest_same, lost_more}
use Rattle.pfx_book.proofs.Keeping.{all_taken, state_number}
use Rattle.pfx_book.proofs.Marking.{counts_more, fits_none}
use Rattle.pfx_book.proofs.Asking.{full_is, refuses}
use Rattle.pfx_book.proofs.Dealing.{answers_start, opening_is, other_of, room_of}
use Rattle.pfx_book.proofs.Showing.{none_shown, shows_opened, shows_refused}
use Rattle.pfx_book.proofs.book.Book.open.Goals as goal

pub invariant_of-self-in-Err : goal.invariant_of-self-in-Err
invariant_of-self-in-Err g c =
    let s = c.self.inside in
    let K = g.J.Job.kind in
    let L = g.met.J.Job.laws in
    let B = g.B.Named.start in
    let xs = told K B [] s.history.items in
    let pend = map plain (deque_items s.pending) in
    let h = c.self.invariant.0 in
    let p = c.pass.invariant in
    let mine = c.pass.inside.token.1 in
    let k = c.pass.inside.token.0 in
    let u = c.try_open.new.state in
    let n = c.number-in-Err.result in
    let fault = c.in-Err.fault in
    let full = full_is K L B s.history.items s.keeper s.passes s.state pend s.taken s.marked s.clock s.failure k mine h s.began c.self.invariant.2.first c.number.result c.number.ensures.number in
    let why = other_of K _ s.state fault c.in-Err.ensures.err (c.if-is_no_memory.ensures.no refl) in
    let l : Line g.row.J.Denot = line.Slot c.pass.inside.number true in
    let r = refuses K L B s.history.items s.keeper s.passes s.state pend s.taken s.marked s.clock s.failure k mine h c.note.ensures.known (omega (arith, p.1))
    command.Slot command.Slot fault n u l _ full refl why c.try_open.ensures.same c.number-in-Err.ensures.number (p.0, refl, refl) in
    let items = c.push_reserved.ensures.items ∙ ap (λ q. q ++ l ∷ []) c.make_room.ensures.items in
    let low_enough : s.taken ≤ length (commands_of xs) = (let all = all_taken K B xs s.keeper s.passes s.state pend s.taken s.marked s.clock s.failure h in omega (arith, all)) in
    let e : Note g.row.J.Denot = Refused n command.Slot fault in
    let counts = counts_more K B xs k e s.began s.taken s.width low_enough c.self.invariant.2 in
    let none = none_shown K s.slot (ap (λ (v : Register g.row.J.Denot). v.session.opened) c.self.view_is ∙ c.requires.ready.none_open) in (
      subst (λ (q : List (List (Note g.row.J.Denot)) × List (Line g.row.J.Denot)). IsKept K B (told K B [] q.1) q.0 s.passes u pend s.taken s.marked s.clock s.failure)
          (λ i. (sym c.note.ensures.keeper i, sym items i)) r.1,
      fits_none K u B.number s.slot s.marked _ _ none,
      subst (λ (q : List (Line g.row.J.Denot)). Counts K B (commands_of (told K B [] q)) s.began s.taken s.width) (sym items) (subst (λ q. Counts K B (commands_of q) s.began s.taken s.width) (sym r.0) counts),
      c.self.invariant.3,
    )

pub invariant_of-pass : goal.invariant_of-pass
invariant_of-pass g c =
    let p = c.pass.invariant in
    let mine = c.pass.inside.token.1 in
    let t = c.note.ensures.token in
    let e : Note g.row.J.Denot = Refused c.number-in-Err.result command.Slot c.in-Err.fault in (
      p.0 ∙ sym (ap (λ x. x.0) t),
      subst (λ (x : ℕ × List (Note g.row.J.Denot)). 0 < x.0) (sym t) p.1,
      p.2 ∙ sym (ap (λ x. greatest x.1) t ∙ greatest_same mine e refl),
      p.3 ∙ sym (ap (λ x. lost_in x.1) t ∙ lost_more mine e refl),
    )

pub returns-in-Err-clause-err : goal.returns-in-Err-clause-err
returns-in-Err-clause-err g c =
    let s = c.self.inside in
    let K = g.J.Job.kind in
    let L = g.met.J.Job.laws in
    let B = g.B.Named.start in
    let xs = told K B [] s.history.items in
    let pend = map plain (deque_items s.pending) in
    let h = c.self.invariant.0 in
    let p = c.pass.invariant in
    let mine = c.pass.inside.token.1 in
    let k = c.pass.inside.token.0 in
    let u = c.try_open.new.state in
    let n = c.number-in-Err.result in
    let fault = c.in-Err.fault in
    let full = full_is K L B s.history.items s.keeper s.passes s.state pend s.taken s.marked s.clock s.failure k mine h s.began c.self.invariant.2.first c.number.result c.number.ensures.number in
    let why = other_of K _ s.state fault c.in-Err.ensures.err (c.if-is_no_memory.ensures.no refl) in
    let l : Line g.row.J.Denot = line.Slot c.pass.inside.number true in
    let r = refuses K L B s.history.items s.keeper s.passes s.state pend s.taken s.marked s.clock s.failure k mine h c.note.ensures.known (omega (arith, p.1))
    command.Slot command.Slot fault n u l _ full refl why c.try_open.ensures.same c.number-in-Err.ensures.number (p.0, refl, refl) in
    let items = c.push_reserved.ensures.items ∙ ap (λ q. q ++ l ∷ []) c.make_room.ensures.items in
    let v = c.self.view_is in
    let pv = c.pass.view_is in
    let num : n ≡ c.args.self.now.session.state.number =
    c.number-in-Err.ensures.number ∙ ap (λ (z : Plain g.row.J.Denot). z.number) c.try_open.ensures.same ∙ ap (λ (w : Register g.row.J.Denot). w.session.state.number) v in
    let refused = subst (λ (w : Register g.row.J.Denot). refused_by K w.session command.Slot ≡ Some fault) v (ap (λ b. refused_at b K s.state command.Slot) (sym full) ∙ why) in
    let shows = shows_refused K xs s.state s.slot s.taken s.marked s.clock s.passes s.opener s.failure s.shut k n command.Slot fault u c.try_open.ensures.same in
    inr (
      refused,
      ap (λ q. register K (told K B [] q) u s.slot s.taken s.marked s.clock s.passes s.opener s.failure s.shut) items
          ∙ ap (λ q. register K q u s.slot s.taken s.marked s.clock s.passes s.opener s.failure s.shut) r.0
          ∙ shows ∙ (λ i. entered (pv i).0 (Refused (num i) command.Slot fault) (v i).session (v i)),
      c.note.ensures.token ∙ (λ i. ((pv i).0, (pv i).1 ++ Refused (num i) command.Slot fault ∷ [])),
    )

pub invariant_of-self-in-Ok : goal.invariant_of-self-in-Ok
invariant_of-self-in-Ok g c =
    let s = c.self.inside in
    let K = g.J.Job.kind in
    let L = g.met.J.Job.laws in
    let B = g.B.Named.start in
    let xs = told K B [] s.history.items in
    let pend = map plain (deque_items s.pending) in
    let h = c.self.invariant.0 in
    let u = c.try_open.new.state in
    let o = c.in-Ok.open in
    let still = c.try_open.ensures.same in
    let items = c.make_room.ensures.items in
    let wide : length c.make_room.new.list.items < vec_capacity c.make_room.new.list = omega (arith, c.if-not-make_room.ensures.fits refl) in
    let room : length (commands_of xs) < s.marked + 64 = subst HasRoom (sym (ap (λ (v : Register g.row.J.Denot). v.session) c.self.view_is)) c.requires.ready.room in
    let number = state_number K B xs s.keeper s.passes s.state pend s.taken s.marked s.clock s.failure h in
    let full = full_is K L B s.history.items s.keeper s.passes s.state pend s.taken s.marked s.clock s.failure 0 [] h s.began c.self.invariant.2.first c.number.result c.number.ensures.number in
    let few : length (commands_of xs) < 2 ^ 20 = room_of (length (commands_of xs)) K s.state command.Slot (ap (λ b. refused_at b K s.state command.Slot) (sym full) ∙ c.in-Ok.ensures.free) in (
      subst (λ (q : List (Line g.row.J.Denot) × Plain g.row.J.Denot). IsKept K B (told K B [] q.0) s.keeper s.passes q.1 pend s.taken s.marked s.clock s.failure) (λ i. (sym items i, sym still i)) h,
      (
        subst (λ (t : Plain g.row.J.Denot). StandsAt K t o) (sym still) c.in-Ok.ensures.stands,
        wide,
        omega (arith, room, number, ap (λ (t : Plain g.row.J.Denot). t.number) still),
        omega (arith, few, number, ap (λ (t : Plain g.row.J.Denot). t.number) still),
        subst (Answers o.quanta) (sym c.in-Ok.ensures.none_back) (answers_start o.quanta),
      ),
      subst (λ (q : List (Line g.row.J.Denot)). Counts K B (commands_of (told K B [] q)) s.began s.taken s.width) (sym c.make_room.ensures.items) c.self.invariant.2,
      c.self.invariant.3,
    )

pub returns-in-Ok-clause-begun : goal.returns-in-Ok-clause-begun
returns-in-Ok-clause-begun g c =
    let s = c.self.inside in
    let K = g.J.Job.kind in
    let B = g.B.Named.start in
    let xs = told K B [] s.history.items in
    let u = c.try_open.new.state in
    let o = c.in-Ok.open in
    let v = c.self.view_is in
    let by = c.pass.invariant.0 ∙ ap (λ (z : ℕ × List (Note g.row.J.Denot)). z.0) c.pass.view_is in
    let shows = shows_opened K xs s.state s.slot s.taken s.marked s.clock s.passes s.opener s.failure s.shut o c.pass.inside.number u c.try_open.ensures.same
    (opening_is K s.state o c.in-Ok.ensures.stands c.in-Ok.ensures.none_back) in
    record {
      event = ap (λ q. register K (told K B [] q) u (Some o) s.taken s.marked s.clock s.passes c.pass.inside.number s.failure s.shut) c.make_room.ensures.items
          ∙ shows ∙ (λ i. record (v i) { session = begun K (v i).session; opener = by i });
      silent = refl;
    }
