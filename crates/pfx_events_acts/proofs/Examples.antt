-- Worked rows: the calls of the acts of a small file, whose header has two bytes, its checkpoint areas' bodies two and its segments twenty.
use Rattle.std.specs.Prelude.{◌≡◌, ℕ, List, [], ◌∷◌, true, false, refl}
use Rattle.pfx_disk.specs.Stop.{Sync, Write, Look}
use Rattle.pfx_store_image.specs.ToyCodec.{toy}
use Rattle.pfx_segment.specs.Acts.{put_acts, close_acts}
use Rattle.pfx_store_file.specs.Acts.{steps_acts, end_acts, ended_file, append_acts}
use Rattle.pfx_store_file.specs.Files.{File}
use Rattle.pfx_store_file.specs.declared.progress.Checkpoint.TheVariants.{Pending}

-- two bytes behind a gate
put_row : put_acts 7 (8 ∷ 9 ∷ []) ≡ Write 8 (8 ∷ 9 ∷ []) ∷ Sync ∷ Write 7 (195 ∷ []) ∷ Sync ∷ []
put_row = refl

-- a gate that is known to be closed is read, and not written again
close_row : close_acts 7 false ≡ Look ∷ Sync ∷ []
close_row = refl

-- The first checkpoint area is in use and the second one stands open; a turn was made to the second segment, which has a frame of six
-- bytes, and no step of the checkpoint has been taken.
abbrev file : File ℕ (List ℕ)
file = record {
  head = 10;
  parts = record {
    area = false;
    base = 0 ∷ 0 ∷ [];
    turned = true;
    before = [];
    middle = 1 ∷ 7 ∷ [];
    segment = true;
    frames = (195 ∷ 1 ∷ 2 ∷ 3 ∷ 4 ∷ 5 ∷ []) ∷ [];
  };
  area_open = true;
  segment_open = false;
  checkpoint = Pending;
}

-- the checkpoint's first step closes the checkpoint area, the second one writes the state's two bytes, the third one opens it
one_step : steps_acts toy 1 file (1 ∷ 7 ∷ []) ≡ Write 5 (0 ∷ []) ∷ Sync ∷ []
one_step = refl

three_steps : steps_acts toy 3 file (1 ∷ 7 ∷ []) ≡ Write 5 (0 ∷ []) ∷ Sync ∷ Write 6 (1 ∷ 7 ∷ []) ∷ Sync ∷ Write 5 (195 ∷ []) ∷ Sync ∷ []
three_steps = refl

-- behind these no calls are left
all_steps : end_acts toy file (1 ∷ 7 ∷ []) ≡ steps_acts toy 3 file (1 ∷ 7 ∷ [])
all_steps = refl

-- then the second checkpoint area is in use, and one segment is read
ended_area : (ended_file toy file).parts.area ≡ true
ended_area = refl

ended_turned : (ended_file toy file).parts.turned ≡ false
ended_turned = refl

-- a frame that fits is put behind its gate
fits_row : append_acts toy file (2 ∷ 8 ∷ []) (1 ∷ 7 ∷ []) (3 ∷ 0 ∷ []) (6 ∷ 6 ∷ 0 ∷ []) ≡ Write 44 (6 ∷ 6 ∷ 0 ∷ []) ∷ Sync ∷ Write 43 (195 ∷ []) ∷ Sync ∷ []
fits_row = refl

-- for one that doesn't, the checkpoint is ended and the file turned to the first segment, and the frame is its first one
turned_row : append_acts toy file (2 ∷ 8 ∷ []) (1 ∷ 7 ∷ []) (3 ∷ 0 ∷ []) (6 ∷ 6 ∷ 6 ∷ 6 ∷ 0 ∷ []) ≡
    Write 5 (0 ∷ []) ∷ Sync ∷ Write 6 (1 ∷ 7 ∷ []) ∷ Sync ∷ Write 5 (195 ∷ []) ∷ Sync ∷
    Write 8 (0 ∷ []) ∷ Sync ∷ Write 9 (3 ∷ 0 ∷ []) ∷ Sync ∷ Write 8 (195 ∷ []) ∷ Sync ∷
    Write 18 (6 ∷ 6 ∷ 6 ∷ 6 ∷ 0 ∷ []) ∷ Sync ∷ Write 17 (195 ∷ []) ∷ Sync ∷ []
turned_row = refl
