use Rattle.std.proofs.Common.{◌≡◌, ◌≢◌, ◌∙◌, ℕ, length, refl, sym, ap, Ok, Err}
use Rattle.pfx_store_image.specs.Layout.{file_len}
use Rattle.pfx_store_image.specs.Refusals as means
use Rattle.pfx_store_recover.specs.Answers.{IsRead}
use Rattle.pfx_store_recover.specs.Finding.{IsFound}
use Rattle.pfx_store_recover.specs.declared.contents.Contents.{Contents}
use Rattle.pfx_store_recover.proofs.Giving.{gives_handed, gives_as, whole_is}
use Rattle.pfx_store_recover.proofs.Looking.{kept_after, looks_of, synced}
use Rattle.pfx_store_recover.proofs.Stages.{found_is, found_with, head_is, head_else, sized_len}
use Rattle.pfx_store_recover.proofs.reading.read_file.Goals as goal

pub returns-in_err-header-clause-exact : goal.returns-in_err-header-clause-exact
returns-in_err-header-clause-exact g c honest =
    let bytes = (g.D.Disk.view c.args.disk.now).contents in
    let kept = synced (g.D.Disk.view c.args.disk.now) (g.D.Disk.view c.sync.new.self) (c.sync.ensures.leaves honest) (c.in_ok-sync.ensures.durable honest) in
    let K = g.F.Format.codec in
    let looks = looks_of (g.D.Disk.view c.sync.new.self) (g.D.Disk.view c.len.new.self) c.len.result c.len.ensures.time c.len.ensures.honest c.len.ensures.leaves in
    let long = c.in_ok-len.ensures.length kept.honest ∙ ap length kept.contents in
    gives_handed IsRead (λ r. IsFound K r.0.header bytes r.1.places r.1.state r.1.middle) _ _ _ _ c.in_err-header.field-0.0 c.from_residual-in_err-header.result
    (found_is K bytes) refl (c.in_err-header.ensures.exact bytes (kept_after bytes _ _ looks kept) long) c.from_residual-in_err-header.ensures.1

pub returns-then-len-file_len-clause-exact : goal.returns-then-len-file_len-clause-exact
returns-then-len-file_len-clause-exact g c honest =
    let bytes = (g.D.Disk.view c.args.disk.now).contents in
    let kept = synced (g.D.Disk.view c.args.disk.now) (g.D.Disk.view c.sync.new.self) (c.sync.ensures.leaves honest) (c.in_ok-sync.ensures.durable honest) in
    let K = g.F.Format.codec in
    let h = c.in_ok-header.header in
    let looks = looks_of (g.D.Disk.view c.sync.new.self) (g.D.Disk.view c.len.new.self) c.len.result c.len.ensures.time c.len.ensures.honest c.len.ensures.leaves in
    let long = c.in_ok-len.ensures.length kept.honest ∙ ap length kept.contents in
    let head = c.in_ok-header.ensures.exact bytes (kept_after bytes _ _ looks kept) long in
    let other : length bytes ≢ file_len (K.layout h) = λ same. c.if-len-file_len.true (long ∙ same ∙ sym (sized_len (K.layout h) c.sizes-sizes.result c.file_len.result c.sizes-sizes.ensures.sizes c.file_len.ensures)) in
    found_with K bytes h head ∙ head_else K h bytes other ∙ ap (λ (n : ℕ). Err (means.Damaged n means.Length)) (sym long)

pub returns-in_err-contents-clause-exact : goal.returns-in_err-contents-clause-exact
returns-in_err-contents-clause-exact g c honest =
    let bytes = (g.D.Disk.view c.args.disk.now).contents in
    let kept = synced (g.D.Disk.view c.args.disk.now) (g.D.Disk.view c.sync.new.self) (c.sync.ensures.leaves honest) (c.in_ok-sync.ensures.durable honest) in
    let K = g.F.Format.codec in
    let h = c.in_ok-header.header in
    let looks = looks_of (g.D.Disk.view c.sync.new.self) (g.D.Disk.view c.len.new.self) c.len.result c.len.ensures.time c.len.ensures.honest c.len.ensures.leaves in
    let long = c.in_ok-len.ensures.length kept.honest ∙ ap length kept.contents in
    let then = kept_after bytes _ _ looks kept in
    let head = c.in_ok-header.ensures.exact bytes then long in
    let whole : length bytes ≡ file_len (K.layout h) = sym long ∙ c.if-len-file_len.false ∙ sized_len (K.layout h) c.sizes-sizes.result c.file_len.result c.sizes-sizes.ensures.sizes c.file_len.ensures in
    gives_handed (λ (r : Contents g.row.F.Denot g.row.F-Header.Denot g.row.F-State.Denot). IsFound K h bytes r.places r.state r.middle) (λ r. IsFound K r.0.header bytes r.1.places r.1.state r.1.middle) _ _ _ _ c.in_err-contents.field-0.0 c.from_residual-in_err-contents.result
    (whole_is _) (found_with K bytes h head ∙ head_is K h bytes whole)
    (c.in_err-contents.ensures.exact bytes (kept_after bytes _ _ c.read_header.ensures.call.looks then)) c.from_residual-in_err-contents.ensures.1

pub returns-clause-exact : goal.returns-clause-exact
returns-clause-exact g c honest =
    let bytes = (g.D.Disk.view c.args.disk.now).contents in
    let kept = synced (g.D.Disk.view c.args.disk.now) (g.D.Disk.view c.sync.new.self) (c.sync.ensures.leaves honest) (c.in_ok-sync.ensures.durable honest) in
    let K = g.F.Format.codec in
    let h = c.in_ok-header.header in
    let looks = looks_of (g.D.Disk.view c.sync.new.self) (g.D.Disk.view c.len.new.self) c.len.result c.len.ensures.time c.len.ensures.honest c.len.ensures.leaves in
    let long = c.in_ok-len.ensures.length kept.honest ∙ ap length kept.contents in
    let then = kept_after bytes _ _ looks kept in
    let head = c.in_ok-header.ensures.exact bytes then long in
    let whole : length bytes ≡ file_len (K.layout h) = sym long ∙ c.if-len-file_len.false ∙ sized_len (K.layout h) c.sizes-sizes.result c.file_len.result c.sizes-sizes.ensures.sizes c.file_len.ensures in
    let contents = c.in_ok-contents.contents in
    gives_as (λ r. IsFound K h bytes r.places r.state r.middle) _ _ (Ok contents)
    (found_with K bytes h head ∙ head_is K h bytes whole)
    (c.in_ok-contents.ensures.exact bytes (kept_after bytes _ _ c.read_header.ensures.call.looks then))
