use Rattle.std.proofs.Common.{◌≡◌, ◌∙◌, ℕ, length, sym, subst, arith, Vec}
use Rattle.std.specs.declared.alloc.Global.{Global}
use Rattle.pfx_store_format.specs.Format.{format}
use Rattle.pfx_store_image.specs.Store.{IsStore}
use Rattle.pfx_store_recover.proofs.Looking.{reads_handed}
use Rattle.pfx_replay.proofs.Opens.{handed_none}
use Rattle.pfx_replay_audit.specs.Files.{IsOfParts}
use Rattle.pfx_replay_audit.proofs.file.history_on.Goals as goal

pub returns-in_err-image : goal.returns-in_err-image
returns-in_err-image g c =
    let e = c.in_err-image.field-0.0 in
    let is = c.from_residual.ensures.1 in
    record {
      call = reads_handed {T = Vec ℕ Global} _ _ e c.from_residual.result (record { looks = c.read_image.ensures.looks; device = c.in_err-image.ensures.device }) is;
      exact = λ bytes kept p store area segment turned. handed_none _ e c.from_residual.result is c.in_err-image.ensures.refused;
    }

pub returns-in-Some : goal.returns-in-Some
returns-in-Some g c =
    let K = format g.J.Job.kind in
    let h = c.args.header.now in
    let t = c.args.state.now in
    let sized = c.requires.sized in
    record {
      call = record { looks = c.read_image.ensures.looks; device = λ is. cc };
      exact = λ bytes kept p is area segment turned.
          let long : c.file_len.result ≡ length bytes = omega (arith, c.file_len.ensures, is.long, sized.head, sized.body, sized.segment) in
          let image = c.deref.ensures.value ∙ c.in_ok-image.ensures.exact bytes kept long in
          let found = rw c.in-Some.is at (c.in_ok-history.ensures p (subst (λ l. IsStore K h p t l) (sym image) is) area segment (turned ∙ sym c.in_progress-turned.ensures)) in
          subst (λ l. IsOfParts g.J.Job.kind h p t l c.in-Some.history) image found;
    }

pub returns : goal.returns
returns g c =
    let K = format g.J.Job.kind in
    let h = c.args.header.now in
    let t = c.args.state.now in
    let sized = c.requires.sized in
    record {
      call = record { looks = c.read_image.ensures.looks; device = λ is. cc };
      exact = λ bytes kept p is area segment turned.
          let long : c.file_len.result ≡ length bytes = omega (arith, c.file_len.ensures, is.long, sized.head, sized.body, sized.segment) in
          let image = c.deref.ensures.value ∙ c.in_ok-image.ensures.exact bytes kept long in
          absurd (rw c.in-None.is at (c.in_ok-history.ensures p (subst (λ l. IsStore K h p t l) (sym image) is) area segment (turned ∙ sym c.in_progress-turned.ensures)));
    }
