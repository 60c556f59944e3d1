use Rattle.std.proofs.Common.{◌≡◌, List, ℕ, ◌≤◌, ◌+◌, length, length-take, take, refl, sym, ◌∙◌, ap, arith, rules}
use Rattle.std.specs.Prelude.{slice_index}
use Rattle.pfx_store_create.specs.Creating.{len_of}
use Rattle.pfx_store_format.specs.Format.{format}
use Rattle.pfx_store_header.specs.Headers.{this_version}
use Rattle.pfx_store_header.proofs.Written.{header_long}
use Rattle.pfx_machine.specs.Plain.{IsState}
use Rattle.pfx_store_file.specs.Sizes.{total_len}
use Rattle.pfx_store.specs.Making.{header_of}
use Rattle.std.proofs.lemmas.Bool.{true≢false}
use Rattle.pfx_store.proofs.Counts.{takes_told}
use Rattle.pfx_store.proofs.Made.{begun_is_of, file_short, gate_of, made_calls, made_of, new_stands, told_made, unmade_refused}
use Rattle.pfx_store.proofs.Areas.{spelled_long}
use Rattle.pfx_store.proofs.making.placed.Goals as goal

pub slice_bounds-first-end : goal.slice_bounds-first-end
slice_bounds-first-end g c = omega (arith, length-take 8 c.start_behind-start.result, c.start_behind-start.ensures.long)

pub create_file-requires : goal.create_file-requires
create_file-requires g c =
    let h = header_of c.args.state in
    let state : IsState c.args.state = c.number.ensures.state in
    let head = ap length c.requires.head ∙ header_long this_version h c.requires.header in
    let body = ap length (c.deref.ensures.value ∙ c.requires.spelled) ∙ spelled_long g.J.Job.kind g.met.J.Job.laws c.args.state state in
    record {
      limits = record { number = omega (arith, length-take 8 c.start_behind-start.result, c.start_behind-start.ensures.long); room = omega (arith, c.segment-segment.ensures, c.requires.header.segment.0); short = file_short h (length c.args.head.now) (length c.deref.result.now) c.segment-segment.result c.requires.header head body c.segment-segment.ensures };
      gate = ap (λ (l : List ℕ). slice_index l 0) c.requires.head ∙ gate_of h;
    }

pub invariant_of-result : goal.invariant_of-result
invariant_of-result g c =
    let places = c.in-Ok.ensures.places.1 in
    let state : IsState c.args.state = c.number.ensures.state in
    let least = c.requires.header.segment.0 in
    record {
      long = sym (places.body ∙ ap length c.deref.ensures.value);
      body = places.body ∙ (ap length (c.deref.ensures.value ∙ c.requires.spelled) ∙ spelled_long g.J.Job.kind g.met.J.Job.laws c.args.state state);
      fits = least;
      inside = omega (arith, places.segment_len, c.segment-segment.ensures);
      room = c.requires.room;
    }

pub returns-in-Ok : goal.returns-in-Ok
returns-in-Ok g c = record {
  unmade = search rules;
  vacant = λ honest. (c.in-Ok.ensures.made honest).empty;
  calls =
      let h = header_of c.args.state in
      let state : IsState c.args.state = c.number.ensures.state in
      let head = ap length c.requires.head ∙ header_long this_version h c.requires.header in
      let body = ap length (c.deref.ensures.value ∙ c.requires.spelled) ∙ spelled_long g.J.Job.kind g.met.J.Job.laws c.args.state state in
      let places = c.in-Ok.ensures.places.1 in
      let same : len_of c.args.head.now c.deref.result.now c.segment-segment.result ≡ total_len c.in-Ok.file.places.sizes = omega (arith, places.head, places.body, places.segment_len) in
      record {
        calls_made = told_made _ _ _ _ same (c.in-Ok.ensures.call.takes.ok refl).0;
        only = λ honest. (c.in-Ok.ensures.made honest).durable;
        takes = takes_told _ _ _ _ _ _ (made_calls h (length c.args.head.now) (length c.deref.result.now) c.segment-segment.result c.requires.header head body c.segment-segment.ensures) (λ _. refl) c.in-Ok.ensures.call.takes;
        honest = c.in-Ok.ensures.call.honest;
      };
  made = record { size = c.requires.header.segment; segment_len = c.in-Ok.ensures.places.1.segment_len ∙ c.segment-segment.ensures; state = refl; whole = search rules; none_left = search rules };
  stands = λ honest.
      let K = g.J.Job.kind in
      let h = header_of c.args.state in
      let state : IsState c.args.state = c.number.ensures.state in
      let made = made_of K g.met.J.Job.laws c.args.state c.args.head.now c.deref.result.now (take 8 c.start_behind-start.result) c.segment-segment.result c.requires.header state c.requires.head (c.deref.ensures.value ∙ c.requires.spelled) (omega (arith, length-take 8 c.start_behind-start.result, c.start_behind-start.ensures.long)) (c.start_behind-start.ensures.number ∙ ap (λ (n : ℕ). n + 1) c.number.ensures.number) c.segment-segment.ensures in
      new_stands K h c.in-Ok.file.places c.args.state c.args.spelled.items (g.D.Disk.view c.in-Ok.file.disk) (c.in-Ok.ensures.holds (format K) h c.args.state made honest) (begun_is_of c.args.state c.requires.header);
  recovers = λ honest.
      let K = g.J.Job.kind in
      let h = header_of c.args.state in
      let state : IsState c.args.state = c.number.ensures.state in
      let made = made_of K g.met.J.Job.laws c.args.state c.args.head.now c.deref.result.now (take 8 c.start_behind-start.result) c.segment-segment.result c.requires.header state c.requires.head (c.deref.ensures.value ∙ c.requires.spelled) (omega (arith, length-take 8 c.start_behind-start.result, c.start_behind-start.ensures.long)) (c.start_behind-start.ensures.number ∙ ap (λ (n : ℕ). n + 1) c.number.ensures.number) c.segment-segment.ensures in
      c.in-Ok.ensures.recovers (format K) h c.args.state made (unmade_refused K) honest;
}

pub returns-in-Err-Device-default : goal.returns-in-Err-Device-default
returns-in-Err-Device-default g c = record {
  unmade =
      record {
        size = c.requires.header.segment;
        device = λ is. c.in-Err-Device-default.ensures.call.failed c.in-Err-Device-default.field-0-0-is;
        not_empty = λ honest is. search rules;
        one_call = λ is. search rules;
        unasked = λ never. search rules;
      };
  vacant = λ honest some. c.in-Err-Device-default.ensures.attempts.untouched honest some;
  calls =
      let h = header_of c.args.state in
      let state : IsState c.args.state = c.number.ensures.state in
      let head = ap length c.requires.head ∙ header_long this_version h c.requires.header in
      let body = ap length (c.deref.ensures.value ∙ c.requires.spelled) ∙ spelled_long g.J.Job.kind g.met.J.Job.laws c.args.state state in
      record {
        calls_made = search rules;
        only = search rules;
        takes = takes_told _ _ _ _ _ _ (made_calls h (length c.args.head.now) (length c.deref.result.now) c.segment-segment.result c.requires.header head body c.segment-segment.ensures) (λ is. absurd (true≢false (sym is))) c.in-Err-Device-default.ensures.call.takes;
        honest = c.in-Err-Device-default.ensures.call.honest;
      };
  made = search rules;
  stands = search rules;
  recovers = λ honest.
      let K = g.J.Job.kind in
      let h = header_of c.args.state in
      let state : IsState c.args.state = c.number.ensures.state in
      let made = made_of K g.met.J.Job.laws c.args.state c.args.head.now c.deref.result.now (take 8 c.start_behind-start.result) c.segment-segment.result c.requires.header state c.requires.head (c.deref.ensures.value ∙ c.requires.spelled) (omega (arith, length-take 8 c.start_behind-start.result, c.start_behind-start.ensures.long)) (c.start_behind-start.ensures.number ∙ ap (λ (n : ℕ). n + 1) c.number.ensures.number) c.segment-segment.ensures in
      c.in-Err-Device-default.ensures.recovers (format K) h c.args.state made (unmade_refused K) honest;
}

pub returns : goal.returns
returns g c = record {
  unmade =
      let was = c.in-Err-NotEmpty-default.ensures.not_empty c.in-Err-NotEmpty-default.field-0-0-is in
      record {
        size = c.requires.header.segment;
        device = λ is. search rules;
        not_empty = λ honest is. was.some honest;
        one_call = λ is. was.one_call;
        unasked = λ never. search rules;
      };
  vacant = λ honest some. c.in-Err-NotEmpty-default.ensures.attempts.untouched honest some;
  calls =
      let h = header_of c.args.state in
      let state : IsState c.args.state = c.number.ensures.state in
      let head = ap length c.requires.head ∙ header_long this_version h c.requires.header in
      let body = ap length (c.deref.ensures.value ∙ c.requires.spelled) ∙ spelled_long g.J.Job.kind g.met.J.Job.laws c.args.state state in
      record {
        calls_made = search rules;
        only = search rules;
        takes = takes_told _ _ _ _ _ _ (made_calls h (length c.args.head.now) (length c.deref.result.now) c.segment-segment.result c.requires.header head body c.segment-segment.ensures) (λ is. absurd (true≢false (sym is))) c.in-Err-NotEmpty-default.ensures.call.takes;
        honest = c.in-Err-NotEmpty-default.ensures.call.honest;
      };
  made = search rules;
  stands = search rules;
  recovers = λ honest.
      let K = g.J.Job.kind in
      let h = header_of c.args.state in
      let state : IsState c.args.state = c.number.ensures.state in
      let made = made_of K g.met.J.Job.laws c.args.state c.args.head.now c.deref.result.now (take 8 c.start_behind-start.result) c.segment-segment.result c.requires.header state c.requires.head (c.deref.ensures.value ∙ c.requires.spelled) (omega (arith, length-take 8 c.start_behind-start.result, c.start_behind-start.ensures.long)) (c.start_behind-start.ensures.number ∙ ap (λ (n : ℕ). n + 1) c.number.ensures.number) c.segment-segment.ensures in
      c.in-Err-NotEmpty-default.ensures.recovers (format K) h c.args.state made (unmade_refused K) honest;
}
