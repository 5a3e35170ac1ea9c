use Rattle.image_build.proofs.laws.joined_parts_lack_no_page.Goals as goal

pub returns : goal.returns
returns c = λ shape parts memory page joined lacks. joined.whole page lacks.low lacks.lacks
