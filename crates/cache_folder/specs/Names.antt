-- The names of the files in a cache's folder.
use Rattle.std.specs.Prelude.{ℕ, ◌++◌, List, ◌∷◌, codes, decimal}
use Rattle.cache_folder.specs.declared.names.Part.{Part}
use Rattle.cache_folder.specs.declared.names.Part.TheVariants.{Meta, NewMeta, Data}

abbrev pub ending : Part → List ℕ
ending Meta = codes ".meta"
ending NewMeta = codes ".meta.new"
ending Data = codes ".data"

-- the name of a slot's file, as 7.meta: the slot in digits without a leading zero, and the part
abbrev pub name_of : ℕ → Part → List ℕ
name_of slot part = decimal slot ++ ending part

-- the folder's name, a slash and the name of the slot's file
abbrev pub path_of : List ℕ → ℕ → Part → List ℕ
path_of folder slot part = folder ++ 47 ∷ name_of slot part
