use Rattle.std.proofs.Common.{◌∙◌, sym, ap, arith}
use Rattle.pfx_token.specs.Seats.{holding}
use Rattle.pfx_token.proofs.Moves.{blanks_as, takes_as, learns_as, gives_as}
use Rattle.pfx_token.proofs.tokens.Keeper.look.Goals as goal

pub split_seat-blank-requires : goal.split_seat-blank-requires
split_seat-blank-requires g c =
    let i = c.self.invariant in
    (i.1 ∙ sym i.0, omega (arith, i.3), blanks_as _ _)

pub join_seat-requires : goal.join_seat-requires
join_seat-requires g c =
    let i = c.self.invariant in
    let s = c.split_seat-blank.ensures in
    let k = s.2 ∙ i.2 in
    let r = c.replace-taken.ensures.value in
    let t = c.token.invariant in
    (s.0 ∙ i.1 ∙ sym i.0, ap (λ x. x.table_id) r ∙ t.0 ∙ sym i.0, ap (λ x. x.me.1) r ∙ ap (λ m. m.1) t.1, omega (arith, i.3), takes_as _ _ _ _ _ _ _ (ap (λ m. m.0) k) (ap (λ x. x.me.0) r ∙ ap (λ m. m.0) t.1))

pub load-requires : goal.load-requires
load-requires g c =
    let i = c.self.invariant in
    let s = c.split_seat-blank.ensures in
    let k = s.2 ∙ i.2 in
    let r = c.replace-taken.ensures.value in
    let t = c.token.invariant in
    let w = ap (λ x. x.me.0) r ∙ ap (λ m. m.0) t.1 in
    let j = c.join_seat.ensures in
    (j.0 ∙ s.0 ∙ i.1 ∙ sym i.0, omega (arith, i.3), learns_as _ _ _ _ _ _ _ (j.2 ∙ (λ n. (holding (k n).0 (w n), (k n).1))))

pub split_seat-requires : goal.split_seat-requires
split_seat-requires g c =
    let i = c.self.invariant in
    let s = c.split_seat-blank.ensures in
    let k = s.2 ∙ i.2 in
    let r = c.replace-taken.ensures.value in
    let t = c.token.invariant in
    let w = ap (λ x. x.me.0) r ∙ ap (λ m. m.0) t.1 in
    let j = c.join_seat.ensures in
    let h = j.2 ∙ (λ n. (holding (k n).0 (w n), (k n).1)) in
    let a = c.load.ensures in
    (a.0 ∙ j.0 ∙ s.0 ∙ i.1 ∙ sym i.0, omega (arith, i.3), gives_as _ _ _ _ _ (ap (λ m. m.0) (a.2.0 ∙ h)))
