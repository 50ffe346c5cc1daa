-- `mending::mender::Mender::put_good` meets its contract. Assumes nothing.
use Rattle.mending.proofs.MenderLaws.{good-text}
use Rattle.mending.specs.Mender.{rest_items}
use Rattle.sheets.proofs.Fields.{both}
use Rattle.mending.proofs.mender.Mender.put_good.Goals as goal

pub returns : goal.returns
returns c = rw (good-text (rest_items c.args.self c.args.place) c.args.row.sample) (both c.put_rest-own.ensures c.put_sample.ensures)
