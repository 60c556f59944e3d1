-- A store that stands, as the events see it.
use Rattle.std.specs.Prelude.{◌≡◌, ℕ, ◌+◌, List, take, true}
use Rattle.std.proofs.Common.{sym, subst, refl}
use Rattle.pfx_events_acts.specs.Files.{IsFile}
use Rattle.pfx_checkpoint.specs.Whole.{whole_bytes}
use Rattle.pfx_store_format.proofs.Keeping.{read_of}
use Rattle.pfx_disk.specs.Disk.{View}
use Rattle.pfx_store_format.specs.Format.{format}
use Rattle.pfx_jobs.specs.Kind.{Kind}
use Rattle.pfx_store.specs.Files.{FileOf}
use Rattle.pfx_store.specs.Standing.{Stands}
use Rattle.pfx_machine.specs.Plain.{Plain}
use Rattle.pfx_segment.specs.Segment.{StandAt}
use Rattle.pfx_store_file.specs.Checkpoints.{written}
use Rattle.pfx_store_file.specs.declared.places.Places.{Places}
use Rattle.pfx_store_file.proofs.Checkpoints.{writing_is}
use Rattle.pfx_store_file.specs.Files.{area_of}
use Rattle.pfx_events.specs.Batches.{IsSeen}

module _ {J : Type 0} (K : Kind J) (places : Places) (s : Plain J) (body : List ℕ) (disk : View) (st : Stands K places s body disk) where
  abbrev file : FileOf J
  file = record { head = st.header; parts = st.parts; area_open = places.area_open; segment_open = places.segment_open; checkpoint = places.checkpoint }

  each : (image : List ℕ) → disk.now image → IsFile (format K) s file image
  each image now = let k = st.holds.images image now in record { store = k.store; area_gate = k.area_gate; segment_gate = k.segment_gate; begun = λ is. let b = st.holds.begun (written places.checkpoint) (writing_is places.checkpoint is) in (b.turned, b.shut) }

  same : st.parts.turned ≡ true → body ≡ whole_bytes K st.parts.middle
  same turned = sym (read_of K st.header body st.parts.middle (st.middle turned)).spelled

  pub seen : (f : FileOf J) × IsSeen K places s body f disk
  seen = (
    file,
    record {
      has = record {
        are = record {
          are = record { fits = st.holds.fits; area = st.holds.area; segment = st.holds.segment; turned = st.holds.turned; gate = st.holds.gate; end = st.holds.end };
          area_open = refl;
          segment_open = refl;
          checkpoint = refl;
        };
        spells = same;
      };
      whole = record {
        file = each disk.contents st.holds.honest.here;
        stand = λ is. let b = st.holds.begun (written places.checkpoint) (writing_is places.checkpoint is) in subst (λ (l : List ℕ). StandAt (area_of (format K) file + 1) (take (written places.checkpoint) l) disk.contents) (same b.turned) b.stand;
      };
      each = each;
    },
  )
