-- The store of the events is this product's: what its file stands for, and the calls of its acts.
use Rattle.pfx_events_acts.specs.Files.{IsFile, IsWhole}
use Rattle.pfx_store_format.specs.Format.{format}
use Rattle.pfx_jobs.specs.Kind.{Kind}
use Rattle.pfx_store.specs.Files.{FileOf, spelled, appending, appended, tending, recovered_file}
use Rattle.pfx_store_file.specs.Acts.{tended_file}
use Rattle.pfx_events_world.specs.Setting.{Setting}
-- the frame of a batch after a state
pub use Rattle.pfx_store.specs.Groups.{frame_of}

-- this product's store of a kind of job, as the world of events sees one
abbrev pub store_of : {J : Type 0} → Kind J → Setting J
store_of {J} K = record {
  kind = K;
  Parts = FileOf J;
  stands = λ image s f. IsFile (format K) s f image;
  whole = λ image s f. IsWhole (format K) (spelled K f) s f image;
  recovered = recovered_file K;
  calls = λ f s batch. appending K f s (frame_of K s batch);
  moved = λ f s batch. appended K f s (frame_of K s batch);
  tends = λ f. tending K f;
  tended = λ f. tended_file (format K) f;
}
