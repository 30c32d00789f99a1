pub mod NewScripts
