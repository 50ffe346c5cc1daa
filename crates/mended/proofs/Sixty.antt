-- SIXTY SECONDS IN A ROW ARE FILLED, so no smaller bound holds: a recording with a good sample every 64 seconds is accepted, by computing what its lines mean.
-- Assumes nothing.
use Prim.Native.Nat.{ℕ, ◌*◌}
use mathlib.Core.Path.{◌≡◌, refl, sym, ap, subst, ◌∙◌}
use mathlib.Core.List.{List, [], ◌∷◌, ◌++◌, flatten}
use lib.IntN.{pos}
use lib.ListN.{length, take, drop, take-append-drop}
use Rattle.arithmetic.specs.Whole.{up, within_of}
use Rattle.arithmetic.specs.Date.{leap_year, alternating, usual_length, february_length, month_length, real_day}
use Rattle.series.specs.Scan.{each}
use Rattle.vocabulary.specs.Sample.{power_in_range}
use Rattle.vocabulary.specs.declared.header.Header.{Header}
use Rattle.vocabulary.specs.declared.header.Lot.TheVariants.{Blank}
use Rattle.vocabulary.specs.declared.recorded.Recorded.{Recorded}
use Rattle.settlement.specs.Calls.{seconds_known, interval_of, header_grounds}
use Rattle.print.specs.Decimal.{digits_in, digits}
use Rattle.lines.specs.Lines.{lines_of}
use Rattle.lines.specs.Walk.{walk}
use Rattle.fields.specs.Fields.{fields, field_at}
use Rattle.fields.specs.Numbers.{value_from, digits_of, unsigned_of, long_number_of, number_of}
use Rattle.fields.specs.Day.{day_of}
use Rattle.reading.specs.Line.{is_letter, lot_of, header_of, end_of}
use Rattle.reading.specs.Entry.{entry_kind_of, recorded_of, entry_of}
use Rattle.mending.specs.Mending.{these, grid_of, seconds_of, outside, among, is_good, good_from, good_of, last_of, recorded_grounds, end_grounds, grounds}
use Rattle.mending.specs.Mending.{Item, filled_from, fillings, recorded_items, items, with, says, after, ends, recording}
use Rattle.mended.specs.Endings.{whole, ending, ending_of, AcceptedRecording, EndsSo}
use Rattle.mended.specs.Promises.{samples_in, unfilled, kept_in}
use Rattle.mended.proofs.Endings.{recording-ends}

-- D|2017-02-20|4|-|1
abbrev header_bytes : List ℕ
header_bytes = 68 ∷ 9 ∷ 50 ∷ 48 ∷ 49 ∷ 55 ∷ 45 ∷ 48 ∷ 50 ∷ 45 ∷ 50 ∷ 48 ∷ 9 ∷ 52 ∷ 9 ∷ 45 ∷ 9 ∷ 49 ∷ 10 ∷ []

abbrev header : Header
header = record { date = record { year = 2017; month = 2; day = 20 }; interval = pos 4; lot = Blank; quarters = pos 1 }

-- G|second|1|1
abbrev row_bytes : ℕ → List ℕ
row_bytes second = 71 ∷ 9 ∷ (digits second ++ (9 ∷ 49 ∷ 9 ∷ 49 ∷ 10 ∷ []))

abbrev row_at : ℕ → Recorded
row_at second = record { second = pos second; sample = record { setpoint = pos 1; actual = pos 1 } }

-- every 64 seconds
abbrev times : List ℕ
times = 0 ∷ 64 ∷ 128 ∷ 192 ∷ 256 ∷ 320 ∷ 384 ∷ 448 ∷ 512 ∷ 576 ∷ 640 ∷ 704 ∷ 768 ∷ 832 ∷ 896 ∷ []

unfoldable pub sixty_input : List ℕ
sixty_input = header_bytes ++ (flatten (each row_bytes times) ++ (69 ∷ 10 ∷ []))

sixty-ends : ending_of sixty_input ≡ whole (these header (each row_at times))
unfolding sixty_input flatten each digits digits_in
    up within_of leap_year alternating usual_length february_length month_length real_day power_in_range seconds_known interval_of header_grounds
    lines_of fields field_at value_from digits_of unsigned_of long_number_of number_of day_of is_letter lot_of header_of end_of entry_kind_of recorded_of entry_of
    grid_of outside among is_good good_from good_of last_of recorded_grounds end_grounds grounds with ending ending_of
sixty-ends = refl

-- IT IS ACCEPTED
pub sixty-accepted : AcceptedRecording sixty_input header (each row_at times)
sixty-accepted = subst (EndsSo sixty_input) sixty-ends (recording-ends sixty_input)

-- AND BEHIND ITS FIRST SAMPLE 60 SECONDS ARE FILLED in a row
pub record SixtyFilled (before between after : List Item) : Type 0 where
  pub parted : recording sixty_input ≡ before ++ (between ++ after)
  pub no-good : kept_in between ≡ []
  pub sixty : length (samples_in between) * seconds_of (grid_of header) ≡ 60

abbrev printed_all : List Item
printed_all = recording sixty_input

pub sixty-filled : SixtyFilled (take 1 printed_all) (take 15 (drop 1 printed_all)) (drop 15 (drop 1 printed_all))
unfolding sixty_input flatten each digits digits_in
    up within_of leap_year alternating usual_length february_length month_length real_day power_in_range seconds_known interval_of header_grounds
    lines_of fields field_at value_from digits_of unsigned_of long_number_of number_of day_of is_letter lot_of header_of end_of entry_kind_of recorded_of entry_of
    grid_of outside among is_good good_from good_of last_of recorded_grounds end_grounds grounds filled_from fillings recorded_items items with says after ends walk recording
    samples_in unfilled
sixty-filled =
    record {
      parted =
          sym (take-append-drop 1 printed_all) ∙ ap (λ (l : List Item). take 1 printed_all ++ l) (sym (take-append-drop 15 (drop 1 printed_all)));
      no-good = refl;
      sixty = refl;
    }
