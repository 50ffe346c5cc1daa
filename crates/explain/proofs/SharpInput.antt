-- The text of the sharpest input is accepted, by computing what its lines mean.
-- Assumes nothing.
use mathlib.Core.Path.{◌≡◌, refl}
use mathlib.Core.List.{flatten}
use Rattle.arithmetic.specs.Whole.{up, within_of}
use Rattle.arithmetic.specs.Date.{leap_year, alternating, usual_length, february_length, month_length, real_day}
use Rattle.series.specs.Scan.{each}
use Rattle.vocabulary.specs.Sample.{power_in_range}
use Rattle.contracts.specs.Identifier.{identifier_byte, identifier_bytes, well_formed, same_bytes}
use Rattle.contracts.specs.Book.{award_in_range, price_in_range}
use Rattle.settlement.specs.Calls.{seconds_known, interval_of, header_grounds}
use Rattle.lines.specs.Lines.{lines_of}
use Rattle.fields.specs.Fields.{fields, field_at}
use Rattle.fields.specs.Numbers.{value_from, digits_of, unsigned_of, long_number_of, number_of}
use Rattle.fields.specs.Day.{day_of}
use Rattle.reading.specs.Line.{is_letter, kind_of, direction_of, lot_of, header_of, identifier_of, contract_of, sample_of, end_of, line_of}
use Rattle.meaning.specs.Meaning.{these, lacks, present, sum_of_awards, below_last, contract_grounds, sample_grounds, end_grounds, grounds, after}
use Rattle.meaning.specs.Endings.{whole, ending, ending_of, AcceptedInput}
use Rattle.meaning.proofs.Inputs.{accepted-input}
use Rattle.explain.specs.Sharpest.{sharpest, sharp_input}

sharp-ends : ending_of sharp_input ≡ whole (these sharpest)
unfolding sharp_input sharpest flatten each
    up within_of leap_year alternating usual_length february_length month_length real_day
    power_in_range identifier_byte identifier_bytes well_formed same_bytes award_in_range price_in_range seconds_known interval_of header_grounds
    lines_of fields field_at value_from digits_of unsigned_of long_number_of number_of day_of
    is_letter kind_of direction_of lot_of header_of identifier_of contract_of sample_of end_of line_of
    lacks present sum_of_awards below_last contract_grounds sample_grounds end_grounds grounds after ending ending_of
sharp-ends = refl

pub sharp-accepted : AcceptedInput sharp_input sharpest
sharp-accepted = accepted-input sharp_input sharpest sharp-ends
