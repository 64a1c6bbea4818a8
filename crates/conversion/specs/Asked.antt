-- What a conversion is asked for: the settings that a call names.
use Rattle.cubemap.specs.Checks.{ConvertSettings, convert_settings}
use Rattle.conversion.specs.declared.Settings.{Settings}

-- the settings as definitions have them: layouts by their bytes
abbrev pub settings_of : Settings → ConvertSettings
settings_of s =
    convert_settings s.source s.target_size s.target_format s.sampler s.source_layout.now s.target_layout.now s.rotation
