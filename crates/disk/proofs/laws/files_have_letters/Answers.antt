use Rattle.disk.proofs.Files.{letters}
use Rattle.disk.proofs.laws.files_have_letters.Goals as goal

pub returns : goal.returns
returns c = λ v rs file is. letters v rs file is
