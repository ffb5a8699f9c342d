-- What the filter asks and promises: a page at one place filtered into a page at another.
-- Assumes nothing.
use Rattle.std.specs.Prelude.{◌≡◌, List, ℕ, ◌+◌, ◌*◌, ◌≤◌, length, get_or}
use Rattle.placement.specs.Placement.{pixel_in, Placed}
use Rattle.placement.specs.declared.Placement.{Placement}
use Rattle.tray.specs.Written.{written}
use Rattle.filter.specs.Filters.{filtered_page}
use Rattle.filter.specs.Work.{work_of}
use Rattle.filter.specs.Engine.{Enters}
use Rattle.filter.specs.declared.Recipe.{Recipe}

-- both pages lie in their buffers and have the same sides, the recipe is one that a ticket may order for a page of
-- these sides, and the scratch has room for two pages
pub record Fits (how : Recipe) (from to : Placement) (source output scratch : ℕ) : Type 0 where
  pub enters : Enters how from source scratch
  pub to_tray : Placed to output
  pub same_width : to.width ≡ from.width
  pub same_height : to.height ≡ from.height

-- The output is as it was but for its page; the scratch is as it was behind its first two pages, and what these hold is
-- left open.
pub record Filtered (how : Recipe) (from to : Placement) (source output scratch after used : List ℕ)
    (work : ℕ) : Type 0 where
  pub written_is : after ≡ written to (filtered_page how from.width from.height (pixel_in source from)) output
  pub same_length : length used ≡ length scratch
  pub rest : (i : ℕ) → from.width * from.height + from.width * from.height ≤ i → get_or used i 0 ≡ get_or scratch i 0
  pub work_is : work ≡ work_of how.operation how.segment from.width from.height
  pub work_few : work ≤ 6 * (from.width * from.height)
