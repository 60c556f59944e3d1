-- Bytes that a store is said to have been found in.
use Rattle.std.specs.Prelude.{◌≤◌, ℕ, List, [], length}
use Rattle.pfx_disk.specs.Stop.{view_of}
use Rattle.pfx_jobs.specs.Kind.{Kind}
use Rattle.pfx_store_file.specs.Sizes.{total_len}
use Rattle.pfx_store.specs.Standing.{Stands}
use Rattle.pfx_store.specs.Stores.{PlainStore}

-- a disk that held these bytes and nothing else is one on which this store stands, and as long as its parts
pub record IsHeldBy {D J : Type 0} (K : Kind J) (store : PlainStore D J) (image : List ℕ) : Type 0 where
  pub stands : Stands K store.file.places store.state store.spelled (view_of image [] 0 0)
  pub inside : total_len store.file.places.sizes ≤ length image
