use Rattle.std.proofs.Common.{◌≡◌, ◌∙◌, ℕ, List, sym, subst, ap, arith, length, not, rules}
use Rattle.std.specs.Vec.{with_items}
use Rattle.std.proofs.lemmas.List.{with_items_is}
use Rattle.pfx_store_recover.specs.Answers.{IsRead}
use Rattle.pfx_store_recover.specs.Finding.{IsFound}
use Rattle.pfx_store_recover.specs.Walking.{Fill}
use Rattle.pfx_store_recover.proofs.Giving.{gives_handed}
use Rattle.pfx_store_recover.proofs.Stages.{replay_same, two_is, two_then, double_found}
use Rattle.pfx_store_recover.proofs.contents.read_double.Goals as goal

pub returns-in_err-between : goal.returns-in_err-between
returns-in_err-between g c = record {
  device = search rules;
  usable = search rules;
  exact = λ bytes in_area gate before frames fill_first fill_next.
      let K = g.F.Format.codec in
      let file = c.args.file.now in
      let b = c.args.second in
      let run = replay_same K file.header bytes b c.args.base.state _ before (c.segment_at-first.ensures.at _ file.sized) in
      gives_handed IsRead (λ r. IsFound K file.header bytes r.places r.state r.middle) _ _ _ _ c.in_err-between.field-0.0 c.from_residual.result
      (two_is K file.header bytes c.args.base.area.second c.args.base.state b before frames) run
      (c.in_err-between.ensures.exact before (subst (λ l. Fill before l) (sym c.frames.ensures.value) fill_first)) c.from_residual.ensures.1;
}

pub returns-in_err-reached : goal.returns-in_err-reached
returns-in_err-reached g c = record {
  device = search rules;
  usable = search rules;
  exact = λ bytes in_area gate before frames fill_first fill_next.
      let K = g.F.Format.codec in
      let file = c.args.file.now in
      let b = c.args.second in
      let first = replay_same K file.header bytes b c.args.base.state _ before (c.segment_at-first.ensures.at _ file.sized) ∙ c.in_ok-between.ensures.exact before (subst (λ l. Fill before l) (sym c.frames.ensures.value) fill_first) in
      let run = replay_same K file.header bytes (not b) c.in_ok-between.between _ frames (c.segment_at-next.ensures.at _ file.sized) in
      gives_handed IsRead (λ r. IsFound K file.header bytes r.places r.state r.middle) _ _ _ _ c.in_err-reached.field-0.0 c.from_residual-in_err-reached.result
      (two_then K file.header bytes c.args.base.area.second c.args.base.state b before frames c.in_ok-between.between first) run
      (c.in_err-reached.ensures.exact frames (subst (λ l. Fill frames l) (sym c.frames-2.ensures.value) fill_next)) c.from_residual-in_err-reached.ensures.1;
}

pub returns : goal.returns
returns g c = record {
  device = search rules;
  usable = search rules;
  exact = λ bytes in_area gate before frames fill_first fill_next.
      let K = g.F.Format.codec in
      let file = c.args.file.now in
      let b = c.args.second in
      let first = replay_same K file.header bytes b c.args.base.state _ before (c.segment_at-first.ensures.at _ file.sized) ∙ c.in_ok-between.ensures.exact before (subst (λ l. Fill before l) (sym c.frames.ensures.value) fill_first) in
      let second = replay_same K file.header bytes (not b) c.in_ok-between.between _ frames (c.segment_at-next.ensures.at _ file.sized) ∙ c.in_ok-reached.ensures.exact frames (subst (λ l. Fill frames l) (sym c.frames-2.ensures.value) fill_next) in
      let middle = c.in_ok-middle.middle in
      let whole : length c.encode.new.out ≡ middle.len = omega (arith, c.encode.ensures.long, c.deref_mut.ensures.len, ap length c.deref_mut.ensures.value, middle.ok.0) in
      let spelled = with_items_is middle c.encode.new.out whole in
      let long : length (with_items middle c.encode.new.out).items ≡ (K.layout file.header).body = omega (arith, ap length spelled, c.encode.ensures.long, c.deref_mut.ensures.len, ap length c.deref_mut.ensures.value, c.in_ok-middle.ensures.len, middle.ok.0, file.sized.body) in
      double_found K file.header bytes c.args.base.area b _ c.args.base.state c.in_ok-between.between c.in_ok-reached.reached c.args.walked before frames c.places_of.result (with_items middle c.encode.new.out) in_area gate c.requires.stand fill_next c.places_of.ensures first second long
      (ap (λ (l : List ℕ). K.read_state file.header l) spelled ∙ c.encode.ensures.read);
}
