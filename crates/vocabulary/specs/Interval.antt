-- What the interval fixes (docs/RULES.md, 'Ranges', 'Windows and gradient').
use Rattle.vocabulary.specs.declared.interval.Interval.{Interval}
use Rattle.vocabulary.specs.declared.interval.Interval.TheVariants.{One, Three, Four}
use Rattle.vocabulary.specs.declared.interval.Windows.{Windows}

-- the seconds of an interval, the samples of a quarter hour, how many samples back the near window ends, and where the spread window starts and ends
abbrev pub windows_of : Interval → Windows
windows_of One = record { seconds = 1; samples = 900; near = 31; from = 31; to = 301 }
windows_of Three = record { seconds = 3; samples = 300; near = 10; from = 11; to = 100 }
windows_of Four = record { seconds = 4; samples = 225; near = 7; from = 8; to = 75 }
