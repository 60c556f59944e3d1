-- What is left of a disk that is only read, and of a log that gets a block.
use Rattle.std.proofs.Common.{◌≡◌, inl, ⊎_elim, ℕ, List, length, sym, ◌∙◌, subst, arith, Result, Ok, Err}
use Rattle.std.specs.Prelude.{IfErr, IfOk, MatchResult}
use Rattle.pfx_disk.specs.Disk.{View, IsHonest, Leaves, Only}
use Rattle.pfx_disk.specs.declared.device.Disk.{Ghosts as DiskGhosts}
use Rattle.pfx_jobs.specs.Kind.{Kind}
use Rattle.pfx_log.specs.Acts.{Grows}
use Rattle.pfx_log.specs.Files.{IsOpen}
use Rattle.pfx_log.specs.Holding.{Holds}
use Rattle.pfx_log.specs.Logs.{Block, Log, with_block}
use Rattle.pfx_log.specs.declared.file.LogFile.{LogFile}
use Rattle.pfx_machine.specs.Plain.{Plain}
use Rattle.pfx_store_recover.specs.Looking.{Looks}
use Rattle.pfx_log_store.specs.Covering.{AreCovered}
use Rattle.pfx_log_store.specs.Opening.{HoldsOn, StayCovered}

-- of a disk that left its bytes alone
pub only_those : {D : Type 0} (d : DiskGhosts D) → ((disk : D) (image : List ℕ) → (d.view disk).since (d.view disk).clock image → (d.view disk).now image)
    → (old : D) (new : View) → IsHonest (d.view old) → Only (d.view old).contents (d.view old) → Looks (d.view old) new → (image : List ℕ) → new.since (d.view old).clock image → image ≡ (d.view old).contents
only_those d only_now old new honest only looks image since =
    ⊎_elim (λ before. only image (only_now old image before)) (λ after. after.2 ∙ only after.0 after.1)
    ((looks.leaves honest).since (d.view old).clock image (omega arith) since)

module _ {D : Type 0} {l : DiskGhosts D} (only_now : (disk : D) (image : List ℕ) → (l.view disk).since (l.view disk).clock image → (l.view disk).now image) (held : Log) (old new : LogFile D l) (is : IsOpen held old) where
  pub holds_still : (more : Log) → new ≡ old → HoldsOn held more (l.view old.disk) (l.view new.disk)
  holds_still more same image since = inl (is.images image (only_now old.disk image (subst (λ f. (l.view f.disk).since (l.view old.disk).clock image) same since)))

  pub holds_more : (block : Block) → Leaves (Grows held block) (l.view old.disk) (l.view new.disk) → HoldsOn held (with_block held block) (l.view old.disk) (l.view new.disk)
  holds_more block leaves image since =
      ⊎_elim (λ before. inl (is.images image (only_now old.disk image before))) (λ after. after.2 (is.images after.0 after.1))
      (leaves.since (l.view old.disk).clock image (omega arith) since)

-- what is so of an answer of either kind, by what is known of it
pub match_by : {T E : Type 0} (A C P : T → Type 0) (B F R : E → Type 0) (result : Result T E) → MatchResult result A B → IfOk result C → IfErr result F → ((t : T) → A t → C t → P t) → ((e : E) → B e → F e → R e) → MatchResult result P R
match_by A C P B F R (Ok t) one two three f g = f t one two
match_by A C P B F R (Err e) one two three f g = g e one three

pub match_of : {T E : Type 0} (C P : T → Type 0) (F R : E → Type 0) (result : Result T E) → IfOk result C → IfErr result F → ((t : T) → C t → P t) → ((e : E) → F e → R e) → MatchResult result P R
match_of C P F R (Ok t) two three f g = f t two
match_of C P F R (Err e) two three f g = g e three

-- an image of the log as it was, or with a block, beside the bytes that the file keeps
pub stays : {D J : Type 0} (d : DiskGhosts D) (K : Kind J) (only_now : (disk : D) (image : List ℕ) → (d.view disk).since (d.view disk).clock image → (d.view disk).now image)
    (start : Plain J) (all : List (List ℕ)) (held more : Log) (old_log new_log : View) (old : D) (new : View) → IsHonest (d.view old) → Only (d.view old).contents (d.view old) → Looks (d.view old) new
    → ((logged : List ℕ) → Holds logged held → AreCovered K start all (length all) logged (d.view old).contents) → ((logged : List ℕ) → Holds logged more → AreCovered K start all (length all) logged (d.view old).contents)
    → HoldsOn held more old_log new_log → StayCovered K start all old_log new_log (d.view old) new
stays d K only_now start all held more old_log new_log old new honest only looks one other holds logged filed since_l since_d =
    let same = only_those d only_now old new honest only looks filed since_d in
    subst (λ f. AreCovered K start all (length all) logged f) (sym same) (⊎_elim (λ is. one logged is) (λ is. other logged is) (holds logged since_l))

pub match_both : {T E : Type 0} (A P : T → Type 0) (B R : E → Type 0) (result : Result T E) → MatchResult result A B → ((t : T) → A t → P t) → ((e : E) → B e → R e) → MatchResult result P R
match_both A P B R (Ok t) is f g = f t is
match_both A P B R (Err e) is f g = g e is

pub map_err : {T E : Type 0} (P Q : E → Type 0) (result : Result T E) → IfErr result P → ((e : E) → P e → Q e) → IfErr result Q
map_err P Q (Ok t) is f = tt
map_err P Q (Err e) is f = f e is
