-- How long the parts of a store's file are, and the layout that they are those of.
use Rattle.std.specs.Prelude.{◌≡◌, ◌≤◌, ◌+◌, ◌*◌, ℕ, Bool}
use Rattle.pfx_store_image.specs.Layout.{Layout, area_at, segment_at}
use Rattle.pfx_store_file.specs.declared.sizes.Sizes.{Sizes}

-- these are the lengths of the layout's parts
pub record HasSizes (L : Layout) (sizes : Sizes) : Type 0 where
  pub head : sizes.head ≡ L.head
  pub body : sizes.body ≡ L.body
  pub segment : sizes.segment ≡ L.segment

-- the file's length
abbrev pub total_len : Sizes → ℕ
total_len sizes = sizes.head + 2 * (1 + sizes.body) + 2 * sizes.segment

-- a checkpoint area stands here in each layout that these are the lengths of, and it and both segments end no later than the file
pub record IsAreaAt (sizes : Sizes) (second : Bool) (place : ℕ) : Type 0 where
  pub at : (L : Layout) → HasSizes L sizes → place ≡ area_at L second
  pub inside : place + 1 + sizes.body + 2 * sizes.segment ≤ total_len sizes

-- a segment stands here in each such layout, and ends no later than the file
pub record IsSegmentAt (sizes : Sizes) (second : Bool) (place : ℕ) : Type 0 where
  pub at : (L : Layout) → HasSizes L sizes → place ≡ segment_at L second
  pub inside : place + sizes.segment ≤ total_len sizes
