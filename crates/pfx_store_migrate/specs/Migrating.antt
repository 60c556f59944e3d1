-- Why a store isn't migrated, and what that leaves of both disks.
use Rattle.std.specs.Prelude.{◌≡◌, ◌<◌, length, Err}
use Rattle.pfx_disk.specs.Disk.{View, HasFailed, IsHonest}
use Rattle.pfx_jobs.specs.Kind.{Kind}
use Rattle.pfx_store_migrate.specs.declared.fault.MigrateFault.{MigrateFault}
use Rattle.pfx_store_migrate.specs.declared.fault.MigrateFault.TheVariants.{New, Old}
use Rattle.pfx_store_recover.specs.Answers.{IsRefusal}
use Rattle.pfx_store_recover.specs.declared.faults.OpenFault.{OpenFault}
use Rattle.pfx_store_recover.specs.declared.faults.OpenFault.TheVariants as opening
use Rattle.pfx_store_image.specs.Recovery.{recovered}
use Rattle.pfx_store.specs.declared.making.InitFault.{InitFault}
use Rattle.pfx_store.specs.declared.making.InitFault.TheVariants as init
use Rattle.pfx_store_version_one.specs.Format.{format_1}

-- a refusal is the one that the old file's bytes are to be refused with, and the disk failed if the fault says so
pub record IsUnread {D J : Type 0} (view : D → View) (K : Kind J) (fault : OpenFault) (old left : D) : Type 0 where
  pub refused : IsHonest (view old) → IsRefusal fault (λ refusal. recovered (format_1 K) (view old).contents ≡ Err refusal)
  pub device : fault ≡ opening.Device → HasFailed (view old) (view left)

-- the disk held bytes, or it failed, or an allocation failed before it was asked anything: the segment is within its limits
abbrev pub IsUnwritten : {E : Type 0} → (E → View) → InitFault → E → E → Type 0
IsUnwritten view (init.SegmentTooSmall least) new left = ⊥
IsUnwritten view init.SegmentTooLarge new left = ⊥
IsUnwritten view init.NotEmpty new left = IsHonest (view new) → 0 < length (view new).contents
IsUnwritten view init.Device new left = HasFailed (view new) (view left)
IsUnwritten view init.NoMemory new left = left ≡ new

-- the old file isn't read, and the new disk isn't asked anything; or the new file isn't made
abbrev pub IsUnmigrated : {D E J : Type 0} → (D → View) → (E → View) → Kind J → D → E → MigrateFault → D → E → Type 0
IsUnmigrated old_view new_view K old new (Old fault) old_left new_left = IsUnread old_view K fault old old_left × (new_left ≡ new)
IsUnmigrated old_view new_view K old new (New fault) old_left new_left = IsUnwritten new_view fault new new_left
