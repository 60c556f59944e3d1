use Rattle.std.proofs.Common.{◌≡◌, length, take, sym, ◌∙◌, ap, subst, rules, Ok}
use Rattle.std.specs.Prelude.{Err}
use Rattle.std.specs.Vec.{vec_len}
use Rattle.pfx_store_format.proofs.Keeping.{format_bounds}
use Rattle.pfx_store_header.specs.Headers.{read_header, this_version}
use Rattle.pfx_store_header.specs.declared.sizes.TheConstants.{HEADER_MOST}
use Rattle.pfx_store_recover.specs.Answers.{GivesHead}
use Rattle.pfx_store_recover.proofs.Looking.{looks_of, looks_then}
use Rattle.pfx_store.proofs.Heading.{front_read, head_found, head_handed, refused_so}
use Rattle.pfx_store.proofs.store.Store.layout.Goals as goal

pub returns-in_err-read_head-clause-header : goal.returns-in_err-read_head-clause-header
returns-in_err-read_head-clause-header g c = λ honest.
    (let V = g.D.Disk.view in
    let bytes = (V c.args.disk.now).contents in
    let same = (c.len.ensures.leaves honest).contents in
    let long : length c.deref_mut.result.now ≡ vec_len c.in_ok-front.front = c.deref_mut.ensures.len in
    let out = c.in_ok-read.ensures.bytes (c.len.ensures.leaves honest).honest ∙ (ap (λ n. take n (V c.len.new.self).contents) long ∙ ap (λ l. take (vec_len c.in_ok-front.front) l) same) in
    let front : c.deref.result.now ≡ take HEADER_MOST bytes =
    front_read bytes c.read.new.out c.in_ok-front.front.items c.deref.result.now c.in_ok-len.len (vec_len c.in_ok-front.front) HEADER_MOST (c.in_ok-len.ensures.length honest)
    (c.in_ok-front.ensures.len ∙ c.min.ensures) out c.deref.ensures.value in
    let there = ap (read_header this_version) front ∙ (format_bounds g.J.Job.kind g.met.J.Job.laws).front bytes in
    head_handed (read_header this_version bytes) c.in_err-read_head.field-0.0 c.from_residual-in_err-read_head.result (subst (λ r. GivesHead r (Err c.in_err-read_head.field-0.0)) there c.in_err-read_head.ensures) c.from_residual-in_err-read_head.ensures.1)

pub returns-clause-header : goal.returns-clause-header
returns-clause-header g c = λ honest.
    (let V = g.D.Disk.view in
    let bytes = (V c.args.disk.now).contents in
    let same = (c.len.ensures.leaves honest).contents in
    let long : length c.deref_mut.result.now ≡ vec_len c.in_ok-front.front = c.deref_mut.ensures.len in
    let out = c.in_ok-read.ensures.bytes (c.len.ensures.leaves honest).honest ∙ (ap (λ n. take n (V c.len.new.self).contents) long ∙ ap (λ l. take (vec_len c.in_ok-front.front) l) same) in
    let front : c.deref.result.now ≡ take HEADER_MOST bytes =
    front_read bytes c.read.new.out c.in_ok-front.front.items c.deref.result.now c.in_ok-len.len (vec_len c.in_ok-front.front) HEADER_MOST (c.in_ok-len.ensures.length honest)
    (c.in_ok-front.ensures.len ∙ c.min.ensures) out c.deref.ensures.value in
    let there = ap (read_header this_version) front ∙ (format_bounds g.J.Job.kind g.met.J.Job.laws).front bytes in
    sym there ∙ c.in_ok-read_head.ensures)

pub returns-clause-reads : goal.returns-clause-reads
returns-clause-reads g c = record {
  looks =
      let V = g.D.Disk.view in
      looks_then (V c.args.disk.now) (V c.len.new.self) (V c.read.new.self)
      (looks_of (V c.args.disk.now) (V c.len.new.self) c.len.result c.len.ensures.time c.len.ensures.honest c.len.ensures.leaves)
      (looks_of (V c.len.new.self) (V c.read.new.self) c.read.result c.read.ensures.time c.read.ensures.honest c.read.ensures.leaves);
  device = search rules;
}

pub returns-in_err-read_head-clause-reads : goal.returns-in_err-read_head-clause-reads
returns-in_err-read_head-clause-reads g c = record {
  looks =
      let V = g.D.Disk.view in
      looks_then (V c.args.disk.now) (V c.len.new.self) (V c.read.new.self)
      (looks_of (V c.args.disk.now) (V c.len.new.self) c.len.result c.len.ensures.time c.len.ensures.honest c.len.ensures.leaves)
      (looks_of (V c.len.new.self) (V c.read.new.self) c.read.result c.read.ensures.time c.read.ensures.honest c.read.ensures.leaves);
  device = search rules;
}

pub returns-clause-opens : goal.returns-clause-opens
returns-clause-opens g c = λ honest. head_found g.J.Job.kind g.met.J.Job.laws (g.D.Disk.view c.args.disk.now).contents (Ok c.in_ok-read_head.field-0) (returns-clause-header g c honest)

pub returns-in_err-read_head-clause-refused : goal.returns-in_err-read_head-clause-refused
returns-in_err-read_head-clause-refused g c = λ honest. refused_so g.J.Job.kind (g.D.Disk.view c.args.disk.now).contents c.from_residual-in_err-read_head.result (returns-in_err-read_head-clause-header g c honest)
