use Rattle.std.specs.Prelude.{nat_le, vec_capacity, option_map}
use Rattle.std.specs.VecDeque.{deque_items}
use Rattle.std.proofs.Common.{◌≡◌, ℕ, List, [], ◌∷◌, ◌++◌, ◌<◌, ◌≤◌, ◌+◌, ◌^◌, length, map, Option, Some, false, refl, sym, ap, ◌∙◌, subst, arith, rules}
use Rattle.std.proofs.lemmas.List.{map-append}
use Rattle.pfx_machine.specs.Refusals.{reply}
use Rattle.pfx_machine.specs.declared.command.Command.TheVariants as command
use Rattle.pfx_record.specs.Records.{plain, Recorded}
use Rattle.pfx_book_slot.specs.Dealt.{Dealt, AllBack}
use Rattle.pfx_events_world.specs.Session.{sealed}
use Rattle.pfx_book.specs.declared.note.Note.{Note}
use Rattle.pfx_book.specs.declared.note.Note.TheVariants.{Accepted}
use Rattle.pfx_book.specs.declared.line.Line.{Line}
use Rattle.pfx_book.specs.declared.line.Line.TheVariants as line
use Rattle.pfx_book.specs.Notes.{greatest, lost_in, commands_of}
use Rattle.pfx_book.specs.Lines.{told}
use Rattle.pfx_book.specs.Register.{Register, register, shown}
use Rattle.pfx_book.specs.Calls.{entered}
use Rattle.pfx_book.specs.Kept.{Counts, IsKept, OpenFits}
use Rattle.pfx_book.specs.Trying.{IsReady}
use Rattle.pfx_book.proofs.Notes.{greatest_more, lost_more}
use Rattle.pfx_book.proofs.Keeping.{state_number, outcome_is, all_taken, low}
use Rattle.pfx_book.proofs.Marking.{counts_more, fits_none}
use Rattle.pfx_book.proofs.Asking.{accepts, one_step}
use Rattle.pfx_book.proofs.Taking.{length_map}
use Rattle.pfx_book.proofs.Dealing.{all_shown, free_in, ready_of, sealed_is}
use Rattle.pfx_book.proofs.Showing.{shows_sealed}
use Rattle.pfx_book.proofs.book.Book.seal.Goals as goal

pub returns-then-opener-pass-clause-none : goal.returns-then-opener-pass-clause-none
returns-then-opener-pass-clause-none g c =
    let s = c.self.inside in
    let v = c.self.view_is in
    let other : s.opener ≡ c.pass.inside.number → ⊥ = search rules in
    (v, refl, λ m e. other (ap (λ (w : Register g.row.J.Denot). w.opener) v ∙ e ∙ sym (c.pass.invariant.0 ∙ ap (λ (z : ℕ × List (Note g.row.J.Denot)). z.0) c.pass.view_is)))

pub returns-then-not-is_all_back-clause-none : goal.returns-then-not-is_all_back-clause-none
returns-then-not-is_all_back-clause-none g c =
    let s = c.self.inside in
    let v = c.self.view_is in
    let missing : IsReady s.slot → ⊥ = search rules in
    (v, refl, λ m e. missing (ready_of g.J.Job.kind s.slot (m.0, ap (λ (w : Register g.row.J.Denot). w.session.opened) v ∙ m.1, m.2)))

pub push_back_reserved-requires : goal.push_back_reserved-requires
push_back_reserved-requires g c =
    let s = c.self.inside in
    let K = g.J.Job.kind in
    let B = g.B.Named.start in
    let xs = told K B [] s.history.items in
    let pend = map plain (deque_items s.pending) in
    let h = c.self.invariant.0 in
    let all = all_taken K B xs s.keeper s.passes s.state pend s.taken s.marked s.clock s.failure h in
    let mark = low K B xs s.keeper s.passes s.state pend s.taken s.marked s.clock s.failure h in
    let number = state_number K B xs s.keeper s.passes s.state pend s.taken s.marked s.clock s.failure h in
    let was : s.slot ≡ Some c.in_ok-open.open = sym c.in_ok-open.ensures.value in
    let fits = subst (λ (o : Option (Dealt g.row.J.Denot)). OpenFits K s.state B.number o s.marked (length s.history.items) (vec_capacity s.history)) was c.self.invariant.1 in
    omega (arith, all, mark, number, length_map plain (deque_items s.pending), fits.2, c.self.invariant.3)

pub invariant_of-self-2 : goal.invariant_of-self-2
invariant_of-self-2 g c =
    let s = c.self.inside in
    let K = g.J.Job.kind in
    let L = g.met.J.Job.laws in
    let B = g.B.Named.start in
    let xs = told K B [] s.history.items in
    let pend = map plain (deque_items s.pending) in
    let h = c.self.invariant.0 in
    let p = c.pass.invariant in
    let mine = c.pass.inside.token.1 in
    let k = c.pass.inside.token.0 in
    let n = c.number-number.result in
    let said = c.copy_reply.result in
    let u = c.seal_on.new.state in
    let done = c.in_ok-reply.field-0 in
    let l : Line g.row.J.Denot = line.Slot c.pass.inside.number false in
    let was : s.slot ≡ Some c.in_ok-open.open = sym c.in_ok-open.ensures.value in
    let fits = subst (λ (o : Option (Dealt g.row.J.Denot)). OpenFits K s.state B.number o s.marked (length s.history.items) (vec_capacity s.history)) was c.self.invariant.1 in
    let number = state_number K B xs s.keeper s.passes s.state pend s.taken s.marked s.clock s.failure h in
    let here = outcome_is K B xs s.keeper s.passes s.state pend s.taken s.marked s.clock s.failure h in
    let free = free_in (length (commands_of xs)) K s.state command.Slot (omega (arith, fits.3, number)) fits.0.accepted in
    let a = accepts K L B s.history.items s.keeper s.passes s.state pend s.taken s.marked s.clock s.failure k mine h c.note.ensures.known (omega (arith, p.1))
    command.Slot command.Slot said n u (plain done.entry) l (nat_le (2 ^ 20) (length (commands_of xs))) refl refl free (c.copy_reply.ensures ∙ c.in_ok-reply.ensures.reply) c.in_ok-reply.ensures.entry
    (c.seal_on.ensures.outcome B (commands_of xs) here) c.number-number.ensures.number (p.0, refl, refl) (omega (arith, fits.2, number)) in
    let items = c.push_reserved.ensures.items in
    let low_enough : s.taken ≤ length (commands_of xs) = (let all = all_taken K B xs s.keeper s.passes s.state pend s.taken s.marked s.clock s.failure h in omega (arith, all)) in
    let e : Note g.row.J.Denot = Accepted n command.Slot said in
    let counts = counts_more K B xs k e s.began s.taken s.width low_enough c.self.invariant.2 in
    let queue = ap (map plain) c.push_back_reserved.ensures.items ∙ map-append plain (deque_items s.pending) (done.entry ∷ []) in (
      subst (λ (q : List (List (Note g.row.J.Denot)) × List (Line g.row.J.Denot) × List (Recorded g.row.J.Denot)). IsKept K B (told K B [] q.1) q.0 s.passes u q.2 s.taken s.marked s.clock s.failure)
          (λ i. (sym c.note.ensures.keeper i, sym items i, sym queue i)) a.1,
      fits_none K u B.number c.take.new.self s.marked _ _ c.take.ensures.after,
      subst (λ (q : List (Line g.row.J.Denot)). Counts K B (commands_of (told K B [] q)) s.began s.taken s.width) (sym items) (subst (λ q. Counts K B (commands_of q) s.began s.taken s.width) (sym a.0) counts),
      omega (arith, c.self.invariant.3, c.push_back_reserved.ensures.capacity),
    )

pub invariant_of-pass : goal.invariant_of-pass
invariant_of-pass g c =
    let s = c.self.inside in
    let K = g.J.Job.kind in
    let L = g.met.J.Job.laws in
    let B = g.B.Named.start in
    let xs = told K B [] s.history.items in
    let pend = map plain (deque_items s.pending) in
    let h = c.self.invariant.0 in
    let p = c.pass.invariant in
    let mine = c.pass.inside.token.1 in
    let k = c.pass.inside.token.0 in
    let n = c.number-number.result in
    let said = c.copy_reply.result in
    let u = c.seal_on.new.state in
    let done = c.in_ok-reply.field-0 in
    let l : Line g.row.J.Denot = line.Slot c.pass.inside.number false in
    let was : s.slot ≡ Some c.in_ok-open.open = sym c.in_ok-open.ensures.value in
    let fits = subst (λ (o : Option (Dealt g.row.J.Denot)). OpenFits K s.state B.number o s.marked (length s.history.items) (vec_capacity s.history)) was c.self.invariant.1 in
    let number = state_number K B xs s.keeper s.passes s.state pend s.taken s.marked s.clock s.failure h in
    let here = outcome_is K B xs s.keeper s.passes s.state pend s.taken s.marked s.clock s.failure h in
    let free = free_in (length (commands_of xs)) K s.state command.Slot (omega (arith, fits.3, number)) fits.0.accepted in
    let a = accepts K L B s.history.items s.keeper s.passes s.state pend s.taken s.marked s.clock s.failure k mine h c.note.ensures.known (omega (arith, p.1))
    command.Slot command.Slot said n u (plain done.entry) l (nat_le (2 ^ 20) (length (commands_of xs))) refl refl free (c.copy_reply.ensures ∙ c.in_ok-reply.ensures.reply) c.in_ok-reply.ensures.entry
    (c.seal_on.ensures.outcome B (commands_of xs) here) c.number-number.ensures.number (p.0, refl, refl) (omega (arith, fits.2, number)) in
    let e : Note g.row.J.Denot = Accepted n command.Slot said in
    let z = c.note.ensures.token in
    let m : greatest (mine ++ e ∷ []) ≡ n = greatest_more mine e ∙ omega (arith, a.2) in (
      p.0 ∙ sym (ap (λ x. x.0) z),
      subst (λ (x : ℕ × List (Note g.row.J.Denot)). 0 < x.0) (sym z) p.1,
      sym (ap (λ x. greatest x.1) z ∙ m),
      p.3 ∙ sym (ap (λ x. lost_in x.1) z ∙ lost_more mine e refl),
    )

pub returns-clause-may : goal.returns-clause-may
returns-clause-may g c =
    let s = c.self.inside in
    let K = g.J.Job.kind in
    let v = c.self.view_is in
    let o = c.in_ok-open.open in
    let was : s.slot ≡ Some o = sym c.in_ok-open.ensures.value in
    let is_ready : IsReady s.slot = c.is_all_back.ensures.0 c.if-not-is_all_back.false in
    let all : AllBack o.back = subst (λ (q : Option (Dealt g.row.J.Denot)). IsReady q) was is_ready in
    let same : s.opener ≡ c.pass.inside.number = search rules in (
      (
        shown K o,
        sym (ap (λ (w : Register g.row.J.Denot). w.session.opened) v) ∙ ap (option_map (shown K)) was,
        all_shown (λ d. K.stepped d.before) o.back all,
      ),
      sym (ap (λ (w : Register g.row.J.Denot). w.opener) v) ∙ same ∙ c.pass.invariant.0 ∙ ap (λ (z : ℕ × List (Note g.row.J.Denot)). z.0) c.pass.view_is,
    )

pub returns-clause-accepted : goal.returns-clause-accepted
returns-clause-accepted g c =
    let s = c.self.inside in
    let K = g.J.Job.kind in
    let L = g.met.J.Job.laws in
    let B = g.B.Named.start in
    let xs = told K B [] s.history.items in
    let pend = map plain (deque_items s.pending) in
    let h = c.self.invariant.0 in
    let p = c.pass.invariant in
    let mine = c.pass.inside.token.1 in
    let k = c.pass.inside.token.0 in
    let n = c.number-number.result in
    let said = c.copy_reply.result in
    let u = c.seal_on.new.state in
    let o = c.in_ok-open.open in
    let done = c.in_ok-reply.field-0 in
    let l : Line g.row.J.Denot = line.Slot c.pass.inside.number false in
    let was : s.slot ≡ Some o = sym c.in_ok-open.ensures.value in
    let fits = subst (λ (q : Option (Dealt g.row.J.Denot)). OpenFits K s.state B.number q s.marked (length s.history.items) (vec_capacity s.history)) was c.self.invariant.1 in
    let number = state_number K B xs s.keeper s.passes s.state pend s.taken s.marked s.clock s.failure h in
    let here = outcome_is K B xs s.keeper s.passes s.state pend s.taken s.marked s.clock s.failure h in
    let free = free_in (length (commands_of xs)) K s.state command.Slot (omega (arith, fits.3, number)) fits.0.accepted in
    let a = accepts K L B s.history.items s.keeper s.passes s.state pend s.taken s.marked s.clock s.failure k mine h c.note.ensures.known (omega (arith, p.1))
    command.Slot command.Slot said n u (plain done.entry) l (nat_le (2 ^ 20) (length (commands_of xs))) refl refl free (c.copy_reply.ensures ∙ c.in_ok-reply.ensures.reply) c.in_ok-reply.ensures.entry
    (c.seal_on.ensures.outcome B (commands_of xs) here) c.number-number.ensures.number (p.0, refl, refl) (omega (arith, fits.2, number)) in
    let is_ready : IsReady s.slot = c.is_all_back.ensures.0 c.if-not-is_all_back.false in
    let all : AllBack o.back = subst (λ (q : Option (Dealt g.row.J.Denot)). IsReady q) was is_ready in
    let v = c.self.view_is in
    let pv = c.pass.view_is in
    let step = one_step K L s.state u command.Slot c.seal_on.ensures.outcome ∙ sym (sealed_is K s.state o c.number-total.ensures.state fits.0 fits.4 all) in
    let shows = shows_sealed K xs s.state s.slot s.taken s.marked s.clock s.passes s.opener s.failure s.shut o k n said u was step in
    record {
      number = a.3 ∙ ap (λ (w : Register g.row.J.Denot). w.session.state.number + 1) v;
      reply = c.in_ok-reply.ensures.reply ∙ ap (λ (w : Register g.row.J.Denot). reply w.session.state command.Slot) v;
      rises = subst (λ (z : ℕ × List (Note g.row.J.Denot)). greatest z.1 < n) c.pass.view_is a.2;
      event = ap (λ q. register K (told K B [] q) u c.take.new.self s.taken s.marked s.clock s.passes s.opener s.failure s.shut) c.push_reserved.ensures.items
          ∙ ap (λ q. register K q u c.take.new.self s.taken s.marked s.clock s.passes s.opener s.failure s.shut) a.0
          ∙ ap (λ (q : Option (Dealt g.row.J.Denot)). register K (xs ++ (k, Accepted n command.Slot said) ∷ []) u q s.taken s.marked s.clock s.passes s.opener s.failure s.shut) c.take.ensures.after
          ∙ shows ∙ (λ i. entered (pv i).0 (Accepted n command.Slot (c.copy_reply.ensures i)) (sealed (v i).session) (v i));
      noted = c.note.ensures.token ∙ (λ i. ((pv i).0, (pv i).1 ++ Accepted n command.Slot (c.copy_reply.ensures i) ∷ []));
    }
