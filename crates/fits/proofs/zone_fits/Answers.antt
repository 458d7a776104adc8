-- `fits::zone_fits` meets its contract: each in the queue passes the test of the zone. Assumes nothing.
use Rattle.std.proofs.Common.{rules, tests, ◌∙◌}
use Rattle.std.proofs.lemmas.Iterator.{YieldsList-from_slice}
use Rattle.std.proofs.lemmas.Iterator.Search.{all_from_yields_List}
use Rattle.field.specs.Airspace.{queue_of}
use Rattle.field.proofs.Chains.{every_passes}
use Rattle.fits.specs.Fits.{fits_zone}
use Rattle.fits.proofs.zone_fits.Goals as goal

pub returns : goal.returns
returns c =
    let here = fits_zone c.args.legs c.args.zone in
    let xs = queue_of c.args.q.now in
    all_from_yields_List here _ _ _ c.all.ensures.ran (YieldsList-from_slice xs cc) (λ x b q k. search (rules, tests)) ∙ every_passes here xs
