-- The starred cases hold: each is worked out. Assumes nothing.
use mathlib.Core.Path.{refl}
use Rattle.refusal.specs.Check.{all_below}
use Rattle.sample.specs.Coordinate.{coordinate_ok, coordinates_ok}
use Rattle.sample.specs.Mark.{marked}
use Rattle.geometry.specs.Nearest.{nearest}
use Rattle.geometry.specs.Test.{reaches, lowest, judged, permits}
use Rattle.family.specs.Family.{cells, value, below, least, least_by, via, hop, next, along, rank, total, segments}
use Rattle.permission.specs.Finest.{perm}
use Rattle.words.specs.Word.{word, long, signed, signed_at}
use Rattle.record.specs.Record.{counter, edition_ok, spare_ok, fields_ok, record_outcome}
use Rattle.pause.specs.Pause.{file_length_ok, records_outcome, file_outcome, old_increase, difference, both_with_boot, increase, increase_at, pause_sum, pause_line_of}
use Rattle.starred.specs.Cases.{All, starred}
use Rattle.starred.proofs.Worked.{AllWorked, all_hold}

infixr 4 ◌and◌
abbrev ◌and◌ : {A B : Type 0} → A → B → A × B
a and b = (a, b)

worked : AllWorked starred
unfolding coordinates_ok coordinate_ok marked perm permits judged lowest all_below reaches nearest cells value below least least_by via hop next along rank total segments
    pause_line_of file_outcome file_length_ok records_outcome record_outcome counter edition_ok spare_ok fields_ok word long signed signed_at
    old_increase difference both_with_boot increase increase_at pause_sum
worked =
    -- stretches
    (refl, refl) and (refl, refl) and (refl, refl) and (refl, refl) and (refl, refl) and (refl, refl) and (refl, refl) and (refl, refl) and (refl, refl)
    -- ranks and costs
    and (refl, refl, refl, refl) and (refl, refl, refl, refl) and (refl, refl, refl) and (refl, refl, refl)
    and (refl, refl, refl) and (refl, refl, refl) and (refl, refl, refl) and (refl, refl, refl) and (refl, refl, refl)
    -- two samples, one sample, counters
    and tt and refl and refl and tt

pub by_hand : All starred
by_hand = all_hold starred worked
