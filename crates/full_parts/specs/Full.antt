-- Where a part of a store refuses something.
use Rattle.std.specs.Prelude.{◌≡◌, ◌<◌, ◌+◌, ◌^◌, ℕ, List, []}
use Rattle.partition_model.specs.declared.options.Mode.TheVariants.{Store}
use Rattle.partition_model.specs.declared.options.Options.{Options}
use Rattle.memcached_page.specs.Shelf.{empty}
use Rattle.memcached_page.specs.Kept.{RefusesWhereFull}
use Rattle.part_courses.specs.Courses.{Served, AreServed, course_of}

-- What a part of a store answers, one answer behind another, refuses something only where the part is full. Numbers of values would end at 62 bits.
abbrev pub StoreRefusesWhereFull : Type 0
StoreRefusesWhereFull = (options : Options) (base part : ℕ) (all : List Served) → options.mode ≡ Store → base + options.wear < 2 ^ 62 → AreServed options base part [] all
    → RefusesWhereFull options empty (course_of base part [] all)
