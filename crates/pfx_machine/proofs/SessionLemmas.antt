-- One more command at the end of a session.
use Rattle.std.specs.Prelude.{◌≡◌, List, [], ◌∷◌, ◌++◌, None}
use Rattle.std.proofs.Common.{sym, ◌∙◌, ap, append_assoc, append-nil}
use Rattle.pfx_jobs.specs.Kind.{Kind}
use Rattle.pfx_machine.specs.Plain.{Plain}
use Rattle.pfx_machine.specs.Outcome.{outcome}
use Rattle.pfx_machine.specs.Refusals.{refusal, reply}
use Rattle.pfx_machine.specs.Sessions.{AllAccepted, IsAcceptable, replies_behind, replies}
use Rattle.pfx_machine.specs.declared.command.Command.{Command}

accepted-snoc : {J : Type 0} (K : Kind J) (B : Plain J) (before H : List (Command J)) (c : Command J) →
    AllAccepted K B before H → refusal K (outcome K B (before ++ H)) c ≡ None → AllAccepted K B before (H ++ c ∷ [])
accepted-snoc K B before [] c all last = (ap (λ xs. refusal K (outcome K B xs) c) (sym (append-nil before)) ∙ last, tt)
accepted-snoc K B before (d ∷ H) c all last =
    (all.0, accepted-snoc K B (before ++ d ∷ []) H c all.1 (ap (λ xs. refusal K (outcome K B xs) c) (append_assoc before (d ∷ []) H) ∙ last))

pub acceptable-snoc : {J : Type 0} (K : Kind J) (B : Plain J) (H : List (Command J)) (c : Command J) →
    IsAcceptable K B H → refusal K (outcome K B H) c ≡ None → IsAcceptable K B (H ++ c ∷ [])
acceptable-snoc K B H c all last = accepted-snoc K B [] H c all last

replies_behind-snoc : {J : Type 0} (K : Kind J) (B : Plain J) (before H : List (Command J)) (c : Command J) →
    replies_behind K B before (H ++ c ∷ []) ≡ replies_behind K B before H ++ reply (outcome K B (before ++ H)) c ∷ []
replies_behind-snoc K B before [] c = ap (λ xs. reply (outcome K B xs) c ∷ []) (sym (append-nil before))
replies_behind-snoc K B before (d ∷ H) c =
    ap (λ t. reply (outcome K B before) d ∷ t)
    (replies_behind-snoc K B (before ++ d ∷ []) H c ∙ ap (λ xs. replies_behind K B (before ++ d ∷ []) H ++ reply (outcome K B xs) c ∷ []) (append_assoc before (d ∷ []) H))

pub replies-snoc : {J : Type 0} (K : Kind J) (B : Plain J) (H : List (Command J)) (c : Command J) →
    replies K B (H ++ c ∷ []) ≡ replies K B H ++ reply (outcome K B H) c ∷ []
replies-snoc K B H c = replies_behind-snoc K B [] H c
